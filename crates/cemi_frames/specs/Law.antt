-- Statement: octets are one frame, or have one fault: never both, and never neither.
use Rattle.std.specs.Prelude.{◌≡◌, ◌↔◌, ℕ, ◌+◌, ◌<◌, List, ◌++◌, length, slice_index, take, drop, None, MatchOption}
use Rattle.std.specs.List.{flat_map}
use Rattle.cemi_frames.specs.Fields.{InfoRow, row_octets}
use Rattle.cemi_frames.specs.Frames.{Telegram, IsFrame}
use Rattle.cemi_frames.specs.Faults.{frame_fault}
use Rattle.cemi_frames.specs.Reading.{frame_at}

-- Without a fault they are exactly one frame, with a fault they are none.
abbrev pub HasOneAnswer : List ℕ → Type 0
HasOneAnswer octets =
    MatchOption (frame_fault octets)
    ((t : Telegram) × IsFrame octets t × ((other : Telegram) → IsFrame octets other → other ≡ t))
    (λ _. (t : Telegram) → IsFrame octets t → ⊥)

-- The one frame is what `frame_at` reads at the octets, where they have no fault.
abbrev pub IsReadAsItIs : List ℕ → Type 0
IsReadAsItIs octets = (t : Telegram) → IsFrame octets t ↔ ((frame_fault octets ≡ None) × (t ≡ frame_at octets))

-- Before this place stand rows; what is behind them is not empty, and begins with no row.
pub record IsFirstMisfit (info : List ℕ) (start place : ℕ) : Type 0 where
  pub rows : List InfoRow
  pub rest : List ℕ
  pub parts : info ≡ flat_map row_octets rows ++ rest
  pub place_is : place ≡ start + length (flat_map row_octets rows)
  pub some : 0 < length rest
  pub no_row : (row : InfoRow) (more : List ℕ) → rest ≡ row_octets row ++ more → ⊥

-- the additional information, which begins at place 2
abbrev pub info_of : List ℕ → List ℕ
info_of octets = take (slice_index octets 1) (drop 2 octets)
