use Rattle.std.proofs.Common.{arith}
use Rattle.cemi_frames.proofs.Answer.{found_frame, only_frame, found_content}
use Rattle.cemi_frames.proofs.reading.read_frame.Goals as goal

pub returns-clause-frame : goal.returns-clause-frame
returns-clause-frame c = found_frame c.args.octets.now c.read_parts.result (λ i. omega (arith, c.type_inv.octets i))
    c.read_parts.ensures.exact

pub returns-clause-only : goal.returns-clause-only
returns-clause-only c = only_frame c.args.octets.now c.read_parts.result c.read_parts.ensures.exact

pub returns-clause-content : goal.returns-clause-content
returns-clause-content c = found_content c.args.octets.now c.read_parts.result c.read_parts.ensures.exact
