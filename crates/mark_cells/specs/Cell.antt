-- Statement: a cell keeps one number in 14 octets, as two copies in turn: copy A at the place of the cell, copy B
-- seven octets on. A copy is a gate and the six octets of a number behind it, and counts while its gate is open.
use Rattle.std.specs.Prelude.{◌≡◌, ◌⊎◌, ℕ, ◌+◌, ◌<◌, ◌≤◌, max, false, List, [], ◌∷◌, ◌++◌, replicate, Option, Some, None, Result, Ok, Err, nat_le, if◌then◌else◌}
use Rattle.knx_base.specs.Number.{number_at, octets_of}
use Rattle.nvm_model.specs.Gate.{open_octet, is_open, gated_writes}
use Rattle.nvm_model.specs.Write.{Write, Torn}
use Rattle.nvm_model.specs.declared.fault.NvmFault.{NvmFault}
use Rattle.mark_cells.specs.declared.fault.CellFault.{CellFault}
use Rattle.mark_cells.specs.declared.fault.CellFault.TheVariants.{Unformatted, Memory}

-- the number of the copy with this gate, where it is open
abbrev pub copy_number : List ℕ → ℕ → Option ℕ
copy_number image gate = if is_open image gate then Some (number_at image (gate + 1)) else None

-- the greatest of the numbers that are there
abbrev pub greatest : Option ℕ → Option ℕ → Option ℕ
greatest None b = b
greatest (Some a) None = Some a
greatest (Some a) (Some b) = Some (max a b)

-- the greatest number of an open copy of the cell at this place
unfoldable pub reading : List ℕ → ℕ → Option ℕ
reading image at = greatest (copy_number image at) (copy_number image (at + 7))

-- no copy of the cell is open
pub record IsUnformatted (image : List ℕ) (at : ℕ) : Type 0 where
  pub first : is_open image at ≡ false
  pub second : is_open image (at + 7) ≡ false

-- The place of the copy that is not current. Current is the open copy with the greatest number, and copy A where both
-- are open with equal numbers. Where no copy is open it is the place of A.
abbrev pub place_beside : Option ℕ → Option ℕ → ℕ → ℕ
place_beside None _ at = at
place_beside (Some a) None at = at + 7
place_beside (Some a) (Some b) at = if nat_le b a then at + 7 else at

unfoldable pub other_copy : List ℕ → ℕ → ℕ
other_copy image at = place_beside (copy_number image at) (copy_number image (at + 7)) at

-- the writes that raise the cell to this number: behind the gate of the copy that is not current
unfoldable pub cell_writes : List ℕ → ℕ → ℕ → List Write
cell_writes image at n = gated_writes (other_copy image at) (is_open image (other_copy image at)) (octets_of n)

-- a new cell: copy A is open with the number, copy B is zero
unfoldable pub formatted : ℕ → List ℕ
formatted n = open_octet ∷ octets_of n ++ replicate 7 0

unfoldable pub format_writes : ℕ → ℕ → List Write
format_writes at n = record { at = at; bytes = formatted n } ∷ []

-- the cell has a reading, and it is below this number
pub record ReadsBelow (image : List ℕ) (at n : ℕ) : Type 0 where
  pub value : ℕ
  pub reads : reading image at ≡ Some value
  pub below : value < n

-- the cell reads as before or reads the new number, and all octets outside it are as before
pub record IsOldOrNew (old : List ℕ) (at n : ℕ) (image : List ℕ) : Type 0 where
  pub outside : Torn at 14 old image
  pub reads : (reading image at ≡ reading old at) ⊎ (reading image at ≡ Some n)

-- every cell that does not overlap this one reads as before
abbrev pub OthersReadAsBefore : List ℕ → ℕ → List ℕ → Type 0
OthersReadAsBefore old at new =
    (other : ℕ) → (other + 14 ≤ at) ⊎ (at + 14 ≤ other) → reading new other ≡ reading old other

-- the fault of the memory that an answer hands on
abbrev pub memory_fault : {T : Type 0} → Result T CellFault → Option NvmFault
memory_fault (Ok _) = None
memory_fault (Err Unformatted) = None
memory_fault (Err (Memory fault)) = Some fault
