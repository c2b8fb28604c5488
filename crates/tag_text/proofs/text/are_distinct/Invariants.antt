use Rattle.std.proofs.Common.{◌≡◌, ℕ, ◌≤◌, true, List, length, drop}
use Rattle.std.specs.List.{list_any}
use Rattle.std.specs.Str.{bytes_eq}
use Rattle.std.specs.BTreeSet.{contains}
use Rattle.std.specs.Cmp.Lexicographic.{slice_cmp}
use Rattle.std.specs.Ordering.{nat_cmp}
use denote.Ref.{Bor}
use Rattle.tag_text.specs.Attributes.{are_distinct}
use Rattle.tag_text.proofs.text.are_distinct.Given as goal

-- the attributes from this place on have distinct names, and those are the names of the set
abbrev pub invariant-names : goal.invariant-names
invariant-names l = record {
  within : l.left ≤ length l.pairs;
  distinct : are_distinct (drop l.left l.pairs) ≡ true;
  names : (name : Bor (List ℕ)) → contains (λ x y. slice_cmp nat_cmp x.now y.now) l.names name
      ≡ list_any (λ other. bytes_eq other.0 name.now) (drop l.left l.pairs);
}

abbrev pub decreases-names : goal.decreases-names
decreases-names l = l.left
