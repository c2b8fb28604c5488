use Rattle.std.proofs.Common.{ap, refl, ◌∙◌}
use Rattle.aes_modes.specs.Cipher.{xor_blocks, mix_columns, round}
use Rattle.aes_modes.specs.Words.{block_of}
use Rattle.aes_modes.proofs.Squares.{xor_blocks_twice}
use Rattle.aes_modes.proofs.rounds.undo_round.Goals as goal

pub returns : goal.returns
unfolding round
returns c =
    let k = block_of c.args.k in
    ap (λ b. xor_blocks b k) (ap mix_columns c.restored.ensures ∙ c.unmixed.ensures ∙ c.add_key.ensures)
    ∙ xor_blocks_twice (block_of c.args.s) k refl
