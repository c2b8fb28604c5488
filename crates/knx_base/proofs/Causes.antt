-- The cause of an answer that is no failure.
use Rattle.std.proofs.Common.{◌≡◌, ℕ, Ok, arith}
use Rattle.knx_base.specs.Faults.{HasCause}

pub cause_kept : {T E : Type 0} {before now : ℕ} {value : T} → now ≡ before
    → HasCause {T = T} {E = E} before now (Ok value)
cause_kept same = record { later = omega (arith, same); kept = same; failed = tt }
