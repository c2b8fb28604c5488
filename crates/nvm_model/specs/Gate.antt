-- Statement: a gate is one octet that stands before a body of octets. What is behind it counts while it is open.
use Rattle.std.specs.Prelude.{◌≡◌, ◌⊎◌, ℕ, ◌+◌, ◌<◌, ◌==◌, Bool, true, false, List, [], ◌∷◌, length, slice_index}
use Rattle.nvm_model.specs.Write.{Write, Torn}

-- the octet of an open gate; a gate with any other is not open
abbrev pub open_octet : ℕ
open_octet = 0xA5

abbrev pub is_open : List ℕ → ℕ → Bool
is_open image gate = slice_index image gate == open_octet

abbrev pub shut_write : ℕ → Write
shut_write gate = record { at = gate; bytes = 0 ∷ [] }

abbrev pub body_write : ℕ → List ℕ → Write
body_write gate body = record { at = gate + 1; bytes = body }

abbrev pub open_write : ℕ → Write
open_write gate = record { at = gate; bytes = open_octet ∷ [] }

-- behind a gate that is shut
abbrev pub opening_writes : ℕ → List ℕ → List Write
opening_writes gate body = body_write gate body ∷ open_write gate ∷ []

-- Behind a gate that is open or is not. An open gate is shut first. One that is not open is left alone until it is
-- opened, since a write of it that is torn could open it over what is behind it.
abbrev pub gated_writes : ℕ → Bool → List ℕ → List Write
gated_writes gate true body = shut_write gate ∷ opening_writes gate body
gated_writes gate false body = opening_writes gate body

-- the body stands behind the gate
pub record HasBody (gate : ℕ) (body image : List ℕ) : Type 0 where
  pub each : (k : ℕ) → k < length body → slice_index image (gate + 1 + k) ≡ slice_index body k

-- the body stands behind the gate, and counts
pub record IsOpenOver (gate : ℕ) (body image : List ℕ) : Type 0 where
  pub open_gate : is_open image gate ≡ true
  pub holds : HasBody gate body image

-- the gate was open, and the n octets behind it are as they were
pub record IsAsBefore (gate n : ℕ) (old image : List ℕ) : Type 0 where
  pub was_open : is_open old gate ≡ true
  pub each : (k : ℕ) → k < n → slice_index image (gate + 1 + k) ≡ slice_index old (gate + 1 + k)

-- At each moment of a write behind a gate the gate is shut, or what is behind it is as it was behind an open gate,
-- or it is the whole new body.
pub record IsGatedMoment (gate : ℕ) (body old image : List ℕ) : Type 0 where
  pub outside : Torn gate (1 + length body) old image
  pub behind : (is_open image gate ≡ false) ⊎ (IsAsBefore gate (length body) old image ⊎ HasBody gate body image)
