use Rattle.std.proofs.Common.{◌≡◌, ◌-◌, ℕ, Bool, true, false, List, drop, arith, ap, sym, ◌∙◌}
use Rattle.std.specs.List.{list_any}
use Rattle.std.specs.Str.{bytes_eq}
use Rattle.tag_text.proofs.AttributeLemmas.{last_before, name_repeated, name_new, names_more}
use Rattle.tag_text.proofs.OctetLemmas.{by_not, by_not_true}
use Rattle.tag_text.proofs.text.are_distinct.Goals as goal

-- the names of the set are those of the attributes that are left, here at the name of the pair
at_pair : (rest : List (List ℕ × List ℕ)) (name first : List ℕ) (had answer : Bool) → name ≡ first
    → had ≡ list_any (λ other. bytes_eq other.0 name) rest → had ≡ answer
    → list_any (λ other. bytes_eq other.0 first) rest ≡ answer
at_pair rest name first had answer same names is =
    sym (names ∙ ap (λ (octets : List ℕ). list_any (λ other. bytes_eq other.0 octets) rest) same) ∙ is

pub returns-then-not-branch : goal.returns-then-not-branch
returns-then-not-branch c =
    let pair : List ℕ × List ℕ = c.index-pairs-left.result in
    let here = last_before c.args.pairs.now c.names.left pair c.names-test.true c.names.invariant.within
    c.index-pairs-left.is in
    record {
      distinct =
          sym (name_repeated c.args.pairs.now (c.names.left - 1) pair (drop c.names.left c.args.pairs.now) here
          (at_pair (drop c.names.left c.args.pairs.now) c.as_str.result.now pair.0 _ true c.as_str.ensures.octets
          (c.names.invariant.names c.as_str.result)
          (by_not _ (sym c.in_ok-insert.ensures.added ∙ c.if-not-branch.true))));
    }

pub names-preserved : goal.names-preserved
names-preserved c =
    let pair : List ℕ × List ℕ = c.index-pairs-left.result in
    let here = last_before c.args.pairs.now c.names.left pair c.names-test.true c.names.invariant.within
    c.index-pairs-left.is in
    record {
      within = omega (arith, c.names.invariant.within);
      distinct =
          name_new c.args.pairs.now (c.names.left - 1) pair (drop c.names.left c.args.pairs.now) here
          (at_pair (drop c.names.left c.args.pairs.now) c.as_str.result.now pair.0 _ false c.as_str.ensures.octets
          (c.names.invariant.names c.as_str.result)
          (by_not_true _ (sym c.in_ok-insert.ensures.added ∙ c.if-not-branch.false))) c.names.invariant.distinct;
      names = λ name.
          names_more c.args.pairs.now (drop c.names.left c.args.pairs.now) (c.names.left - 1) pair c.as_str.result.now
          name.now _ _ here c.as_str.ensures.octets
          (c.in_ok-insert.ensures.updates.0 name) (c.names.invariant.names name);
    }
