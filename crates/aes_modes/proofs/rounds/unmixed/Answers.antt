use Rattle.std.proofs.Common.{[], ◌∷◌}
use Rattle.aes_modes.specs.Cipher.{mix_columns}
use Rattle.aes_modes.proofs.rounds.unmixed.Goals as goal

pub returns : goal.returns
unfolding mix_columns
returns c = λ i.
    c.unmixed_column.ensures.row0 i ∷ c.unmixed_column.ensures.row1 i ∷ c.unmixed_column.ensures.row2 i
    ∷ c.unmixed_column.ensures.row3 i
    ∷ c.unmixed_column-2.ensures.row0 i ∷ c.unmixed_column-2.ensures.row1 i ∷ c.unmixed_column-2.ensures.row2 i
    ∷ c.unmixed_column-2.ensures.row3 i
    ∷ c.unmixed_column-3.ensures.row0 i ∷ c.unmixed_column-3.ensures.row1 i ∷ c.unmixed_column-3.ensures.row2 i
    ∷ c.unmixed_column-3.ensures.row3 i
    ∷ c.unmixed_column-4.ensures.row0 i ∷ c.unmixed_column-4.ensures.row1 i ∷ c.unmixed_column-4.ensures.row2 i
    ∷ c.unmixed_column-4.ensures.row3 i ∷ []
