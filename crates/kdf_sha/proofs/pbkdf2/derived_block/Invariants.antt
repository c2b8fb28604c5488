use Rattle.std.proofs.Common.{◌≡◌, ◌-◌, ◌++◌, ℕ, List}
use Rattle.std.specs.List.{fold}
use Rattle.std.specs.Int.{w32, to_be_bytes}
use Rattle.kdf_sha.specs.Xor.{xored}
use Rattle.kdf_sha.specs.Pbkdf2.{iterations, xor_sum}
use Rattle.kdf_sha.specs.Keyed.{IsKeyed}
use Rattle.kdf_sha.proofs.pbkdf2.derived_block.Given as goal

-- the sum so far and the codes that are left are the sum of all
abbrev pub invariant-rounds : goal.invariant-rounds
invariant-rounds l = (password : List ℕ) → IsKeyed l.keyed password
    → fold xored l.sum (iterations password l.code (l.rounds - l._round))
    ≡ xor_sum (iterations password (l.salt ++ to_be_bytes w32 l.number) l.rounds)
