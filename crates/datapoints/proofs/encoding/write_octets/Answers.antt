use Rattle.std.proofs.Common.{arith}
use Rattle.datapoints.proofs.Written.{written_is}
use Rattle.datapoints.proofs.encoding.write_octets.Goals as goal

pub returns-in_default : goal.returns-in_default
returns-in_default c =
    let both = written_is c.args.dpt c.args.bits c.write_apdu-in_default.result c.args.octets.now
    c.write_apdu-in_default.new.out c.args.out.now c.in_default.not-Switch c.write_apdu-in_default.ensures.octets
    c.write_apdu-in_default.ensures.length in
    record { room = omega (arith, c.write_apdu-in_default.ensures.length); written = both.0; rest = both.1 }
