use Rattle.std.proofs.Common.{arith}
use Rattle.datapoints.proofs.FixedTexts.{time_read}
use Rattle.datapoints.proofs.clock.octets_of_time.Goals as goal

pub returns : goal.returns
returns c =
    time_read c.as_bytes.result.now c.args.text.now c.of.result c.in_ok-hour.hour c.in_ok-minute.minute
    c.in_ok-second.second c.as_bytes.ensures.value (omega arith) (omega arith) (omega arith) (omega arith) (omega arith)
    c.in_ok-hour.ensures.1 (omega arith) c.in_ok-minute.ensures.1 (omega arith) c.in_ok-second.ensures.1 (omega arith)
    (omega arith) (omega arith) c.of.ensures
