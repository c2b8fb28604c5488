-- Statement: images of a memory that remembers the range of its last write.
use Rattle.std.specs.Prelude.{◌≡◌, ◌⊎◌, ℕ, ◌<◌, List, length}
use Rattle.std.proofs.Common.{ap, inl, inr, arith}
use Rattle.nvm_model.specs.Write.{Torn}

-- these octets, or since before the last write any in the range of that write
abbrev pub IsSinceLast : ℕ → ℕ → ℕ → ℕ → List ℕ → List ℕ → Type 0
IsSinceLast t clock at n octets image = (image ≡ octets) ⊎ ((t < clock) × Torn at n octets image)

-- since the clock's value now there is what is there now
pub only_last : (clock at n : ℕ) (octets image : List ℕ) → IsSinceLast clock clock at n octets image → image ≡ octets
only_last clock at n octets image (inl is) = is
only_last clock at n octets image (inr (earlier, _)) = absurd (omega (arith, earlier))

-- all have one size
pub size_last : (t clock at n : ℕ) (octets image : List ℕ) → IsSinceLast t clock at n octets image
    → length image ≡ length octets
size_last t clock at n octets image (inl is) = ap length is
size_last t clock at n octets image (inr (_, torn)) = torn.size
