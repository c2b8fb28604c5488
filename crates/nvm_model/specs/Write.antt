-- Statement: writes over a list of octets: what they make, and what one that is torn may leave.
use Rattle.std.specs.Prelude.{◌≡◌, ◌⊎◌, ℕ, ◌+◌, ◌<◌, ◌≤◌, List, [], ◌∷◌, ◌++◌, length, take, drop, slice_index}

-- these octets, from this place on
pub record Write : Type 0 where
  pub at : ℕ
  pub bytes : List ℕ

-- the octets after one whole write
abbrev pub put : Write → List ℕ → List ℕ
put w octets = take w.at octets ++ w.bytes ++ drop (w.at + length w.bytes) octets

-- the octets after all of these writes
abbrev pub written : List Write → List ℕ → List ℕ
written [] octets = octets
written (w ∷ writes) octets = written writes (put w octets)

-- any octets in the n places from this one on, and the old ones in all others
pub record Torn (at n : ℕ) (old new : List ℕ) : Type 0 where
  pub size : length new ≡ length old
  pub before : (k : ℕ) → k < at → slice_index new k ≡ slice_index old k
  pub after : (k : ℕ) → at + n ≤ k → slice_index new k ≡ slice_index old k

-- any octets in the range of this write
abbrev pub TornBy : Write → List ℕ → List ℕ → Type 0
TornBy w old new = Torn w.at (length w.bytes) old new

-- at some moment of these writes: inside one of them, or after the last
abbrev pub Reached : List Write → List ℕ → List ℕ → Type 0
Reached [] old new = new ≡ old
Reached (w ∷ writes) old new = TornBy w old new ⊎ Reached writes (put w old) new

-- some of these writes are whole, or none is, and the next one is torn
abbrev pub PartWritten : List Write → List ℕ → List ℕ → Type 0
PartWritten [] old new = ⊥
PartWritten (w ∷ writes) old new = TornBy w old new ⊎ PartWritten writes (put w old) new

-- a write that is not empty, in a memory of this size
pub record FitsIn (size : ℕ) (w : Write) : Type 0 where
  pub inside : w.at + length w.bytes ≤ size
  pub not_empty : 0 < length w.bytes
