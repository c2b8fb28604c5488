-- Numbers with an exponent.
use Rattle.std.proofs.Common.{ℕ, ◌*◌, ◌%◌, ◌^◌, ◌≤◌, arith}
use Rattle.std.proofs.Math.Pow.{pow_mono}
use Rattle.std.proofs.lemmas.Nat.{mul-le}

-- a mantissa that is shifted loses nothing
pub shifted_bound : (steps exponent : ℕ) → steps ≤ 2048 → exponent ≤ 15
    → steps * 2 ^ exponent % 2 ^ 64 ≤ 2 ^ 26
shifted_bound steps exponent few low =
    let power : 2 ^ exponent ≤ 2 ^ 15 = pow_mono {i = exponent} {j = 15} low in
    let product : steps * 2 ^ exponent ≤ 2048 * 2 ^ 15 = mul-le steps (2 ^ exponent) 2048 (2 ^ 15) few power in
    omega arith
