-- How few steps a search among one row takes.
use Prim.Native.Nat.{zero, suc}
use Rattle.std.proofs.Common.{◌≡◌, ℕ, ◌≤◌, ◌+◌, ◌*◌, ◌^◌, arith, subst}
use Rattle.std.proofs.Math.Nat.{two-pow-succ}
use Rattle.std.proofs.lemmas.Nat.{mul-le, pow_below}
use Rattle.key_tables.specs.Index.{AddsSteps}

-- two comparisons are too many
few_of : (steps : ℕ) → 2 ^ steps ≤ 3 → steps ≤ 1
few_of zero few = omega arith
few_of (suc zero) few = omega arith
few_of (suc (suc steps)) few =
    absurd (omega (arith, few, two-pow-succ (suc steps), pow_below 0 (suc steps) (omega arith)))

pub one_row : (searches rows before now : ℕ) → rows ≡ 1 → AddsSteps searches rows before now → now ≤ before + searches
one_row searches rows before now one steps =
    let each = few_of steps.each (subst (λ n. 2 ^ steps.each ≤ 2 * n + 1) one steps.few) in
    omega (arith, steps.most, mul-le searches steps.each searches 1 (omega arith) each)
