use Rattle.std.proofs.Common.{arith}
use Rattle.plain_apdu.proofs.Octets.{inner_of-octets}
use Rattle.plain_apdu.proofs.apdu.read_apdu.Goals as goal

pub returns-clause-exact : goal.returns-clause-exact
returns-clause-exact c = (inner_of-octets c.args.octets.now c.from_be_bytes.result c.service_of.result
    c.in-len2-up.len_at_least c.if-first-ge4.false (omega (arith, c.type_inv.octets 1)) c.from_be_bytes.ensures
    c.service_of.ensures.service).0

pub returns-clause-spelled : goal.returns-clause-spelled
returns-clause-spelled c = (inner_of-octets c.args.octets.now c.from_be_bytes.result c.service_of.result
    c.in-len2-up.len_at_least c.if-first-ge4.false (omega (arith, c.type_inv.octets 1)) c.from_be_bytes.ensures
    c.service_of.ensures.service).1
