use Rattle.std.proofs.Common.{ap, refl, ◌∙◌}
use Rattle.aes_modes.specs.Cipher.{xor_blocks, last_round}
use Rattle.aes_modes.specs.Words.{block_of}
use Rattle.aes_modes.proofs.Squares.{xor_blocks_twice}
use Rattle.aes_modes.proofs.rounds.undo_last_round.Goals as goal

pub returns : goal.returns
unfolding last_round
returns c =
    let k = block_of c.args.k in
    ap (λ b. xor_blocks b k) (c.restored.ensures ∙ c.add_key.ensures) ∙ xor_blocks_twice (block_of c.args.s) k refl
