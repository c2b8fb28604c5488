-- The marks of lanes in a map.
use Rattle.std.proofs.Common.{◌≡◌, ℕ, Bool, true, false, cond, List, [], ◌∷◌, Option, Some, refl, sym, ap, ◌∙◌}
use Rattle.std.specs.Prelude.{unwrap_or, if◌then◌else◌}
use Rattle.std.specs.Map.{lookup}
use Rattle.std.specs.Ordering.{is_eq}
use Rattle.key_tables.specs.declared.types.Lane.{Lane}
use Rattle.key_tables.specs.contracts.types.LaneOrd.TheImpl.{cmp-value}
use Rattle.key_tables.specs.Lanes.{same_lane}
use Rattle.key_tables.proofs.LaneOrder.{lanes_equal}
use Rattle.audit_core.specs.Audit.{AllKept}
use Rattle.audit_core.specs.Marks.{mark_in}

-- ---- the order of a map

-- what the order finds at a lane is what stands at that lane
pub lookup_lane : {A : Type 0} (entries : List (Lane × A)) (lane : Lane)
    → lookup (λ other. is_eq (cmp-value.it lane other)) entries ≡ lookup (same_lane lane) entries
lookup_lane [] lane = refl
lookup_lane (entry ∷ entries) lane = λ i. cond (lanes_equal lane entry.0 i) (Some entry.1) (lookup_lane entries lane i)

-- ---- marks

either_mark : (same : Bool) (mark : ℕ) (found : Option ℕ)
    → unwrap_or (cond same (Some mark) found) 0 ≡ cond same mark (unwrap_or found 0)
either_mark true mark found = refl
either_mark false mark found = refl

-- A map that was given a mark at a lane has that mark there, and each other lane has its own.
pub mark_updated : (old new : AllKept) (lane : Lane) (mark : ℕ)
    → ((query : Lane) → lookup (λ other. is_eq (cmp-value.it query other)) new
    ≡ cond (is_eq (cmp-value.it lane query)) (Some mark) (lookup (λ other. is_eq (cmp-value.it query other)) old))
    → (other : Lane) → mark_in new other ≡ (if same_lane lane other then mark else mark_in old other)
mark_updated old new lane mark updates other =
    ap (λ found. unwrap_or found 0) (sym (lookup_lane new other) ∙ updates other
    ∙ (λ i. cond (lanes_equal lane other i) (Some mark) (lookup_lane old other i)))
    ∙ either_mark (same_lane lane other) mark (lookup (same_lane other) old)
