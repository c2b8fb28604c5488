use Rattle.std.proofs.Common.{◌∙◌, sym, arith}
use Rattle.aes_modes.proofs.Squares.{xor_blocks-at, length-xor_blocks, same_blocks}
use Rattle.aes_modes.proofs.blocks.xor_block.Goals as goal

pub returns : goal.returns
returns c =
    same_blocks c.octets.block _ c.octets.invariant.long (length-xor_blocks c.args.block.now c.args.other.now)
    (λ i lt. c.octets.invariant.done i (omega arith) ∙ sym (xor_blocks-at c.args.block.now c.args.other.now i lt))
