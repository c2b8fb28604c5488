-- The first check that fails, of one list after another.
use Rattle.std.proofs.Common.{◌≡◌, List, [], ◌∷◌, ◌++◌, Option, Some, None, refl, sym}
use Rattle.std.proofs.lemmas.Option.{none-some}
use Rattle.judge_rules.specs.declared.verdict.Verdict.{Verdict}
use Rattle.judge_rules.specs.Checks.{first_failing}

pub first_failing-after : (first then : List (Option Verdict)) → first_failing first ≡ None
    → first_failing (first ++ then) ≡ first_failing then
first_failing-after [] then none = refl
first_failing-after (None ∷ first) then none = first_failing-after first then none
first_failing-after (Some failed ∷ first) then none = elim (none-some failed (sym none)) [ ]

pub first_failing-stays : (first then : List (Option Verdict)) (failed : Verdict) → first_failing first ≡ Some failed
    → first_failing (first ++ then) ≡ Some failed
first_failing-stays [] then failed said = elim (none-some failed said) [ ]
first_failing-stays (None ∷ first) then failed said = first_failing-stays first then failed said
first_failing-stays (Some other ∷ first) then failed said = said
