-- Statement: numbers that are drawn, how far ahead they are reserved, and how many writes that takes.
use Rattle.std.specs.Prelude.{◌≡◌, ℕ, ◌+◌, ◌-◌, ◌^◌, ◌<◌, ◌≤◌, min, Bool, true, List, [], ◌∷◌, nat_le, if◌then◌else◌}

-- the last reserved number once this one is drawn
abbrev pub reservation_for : ℕ → ℕ → ℕ
reservation_for last next = if nat_le next last then last else min (next + 63) (2 ^ 48 - 1)

-- how many writes a draw made, and what it left: whether the store is sound, the last reserved number, and the next one
pub record Drawn : Type 0 where
  pub writes : ℕ
  pub sound : Bool
  pub last : ℕ
  pub next : ℕ

-- One draw of a sound store with this last reserved number and this next one. A number that is reserved takes no write.
pub record IsDraw (old_last old_next : ℕ) (d : Drawn) : Type 0 where
  pub few : d.writes ≤ 3
  pub none_where_reserved : old_next ≤ old_last → d.writes ≡ 0
  pub drawn : d.sound ≡ true → old_next < 2 ^ 48 → (d.next ≡ old_next + 1)
      × (d.last ≡ reservation_for old_last old_next)
  pub exhausted : old_next ≡ 2 ^ 48 → (d.writes ≡ 0) × (d.next ≡ old_next) × (d.last ≡ old_last)

-- Draws one after another, each of a sound store. Marks may be raised in between.
abbrev pub AreDraws : Bool → ℕ → ℕ → List Drawn → Type 0
AreDraws sound last next [] = Unit {0}
AreDraws sound last next (d ∷ rest) = (sound ≡ true) × IsDraw last next d × AreDraws d.sound d.last d.next rest
