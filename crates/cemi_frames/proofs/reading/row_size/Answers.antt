use Rattle.std.proofs.Common.{arith}
use Rattle.cemi_frames.proofs.Info.{IsMisfit-short, FitsRow-long}
use Rattle.cemi_frames.proofs.reading.row_size.Goals as goal

pub returns-in_default : goal.returns-in_default
returns-in_default c = IsMisfit-short c.args.info.now c.requires (omega arith)

pub returns-then-info-size : goal.returns-then-info-size
returns-then-info-size c = IsMisfit-short c.args.info.now c.requires c.if-info-size.true

pub returns : goal.returns
returns c = FitsRow-long c.args.info.now c.in-len2-up.len_at_least c.if-info-size.false
