use Rattle.std.proofs.Common.{Some, sym, ap, ◌∙◌}
use Rattle.datapoints.specs.Apdus.{apdu_with}
use Rattle.datapoints.proofs.Found.{apdu_found, apdu_none}
use Rattle.datapoints.proofs.encoding.encode.Goals as goal

pub returns-in_default-clause-exact : goal.returns-in_default-clause-exact
returns-in_default-clause-exact c = sym (apdu_none c.args.dpt c.args.text.now c.args.bits c.in_default.ensures)

pub returns-clause-exact : goal.returns-clause-exact
returns-clause-exact c =
    ap Some (c.write_octets.ensures.written ∙ ap (apdu_with c.args.dpt c.args.bits) c.bytes.ensures.octets)
    ∙ sym (apdu_found c.args.dpt c.args.text.now c.args.bits c.in-Some.octets c.in-Some.ensures)
