use Rattle.std.proofs.Common.{[], ◌∷◌}
use Rattle.aes_modes.specs.Cipher.{sub_bytes, shift_rows}
use Rattle.aes_modes.proofs.rounds.restored.Goals as goal

pub returns : goal.returns
unfolding sub_bytes shift_rows
returns c = λ i.
    c.restored_column.ensures.row0 i ∷ c.restored_column-2.ensures.row1 i ∷ c.restored_column-3.ensures.row2 i
    ∷ c.restored_column-4.ensures.row3 i
    ∷ c.restored_column-2.ensures.row0 i ∷ c.restored_column-3.ensures.row1 i ∷ c.restored_column-4.ensures.row2 i
    ∷ c.restored_column.ensures.row3 i
    ∷ c.restored_column-3.ensures.row0 i ∷ c.restored_column-4.ensures.row1 i ∷ c.restored_column.ensures.row2 i
    ∷ c.restored_column-2.ensures.row3 i
    ∷ c.restored_column-4.ensures.row0 i ∷ c.restored_column.ensures.row1 i ∷ c.restored_column-2.ensures.row2 i
    ∷ c.restored_column-3.ensures.row3 i ∷ []
