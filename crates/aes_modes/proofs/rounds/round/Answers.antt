use Rattle.std.proofs.Common.{[], ◌∷◌, ◌∙◌}
use Rattle.aes_modes.specs.Cipher.{xor_blocks, sub_bytes, shift_rows, mix_columns, round}
use Rattle.aes_modes.specs.Words.{block_of}
use Rattle.aes_modes.proofs.rounds.round.Goals as goal

pub returns : goal.returns
unfolding sub_bytes shift_rows mix_columns round
returns c = c.add_key.ensures ∙ (λ i. xor_blocks (
    c.mixed_column.ensures.row0 i ∷ c.mixed_column.ensures.row1 i ∷ c.mixed_column.ensures.row2 i
    ∷ c.mixed_column.ensures.row3 i
    ∷ c.mixed_column-2.ensures.row0 i ∷ c.mixed_column-2.ensures.row1 i ∷ c.mixed_column-2.ensures.row2 i
    ∷ c.mixed_column-2.ensures.row3 i
    ∷ c.mixed_column-3.ensures.row0 i ∷ c.mixed_column-3.ensures.row1 i ∷ c.mixed_column-3.ensures.row2 i
    ∷ c.mixed_column-3.ensures.row3 i
    ∷ c.mixed_column-4.ensures.row0 i ∷ c.mixed_column-4.ensures.row1 i ∷ c.mixed_column-4.ensures.row2 i
    ∷ c.mixed_column-4.ensures.row3 i ∷ []) (block_of c.args.k))
