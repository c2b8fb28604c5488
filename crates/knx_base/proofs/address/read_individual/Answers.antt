use Rattle.std.proofs.Common.{sym, ◌∙◌}
use Rattle.knx_base.proofs.AddressLemmas.{individual_of-one, individual_of-two, individual_of-cut}
use Rattle.knx_base.proofs.address.read_individual.Goals as goal

pub returns-in_err-area : goal.returns-in_err-area
returns-in_err-area c = c.from_residual.ensures ∙ sym (individual_of-one c.args.text.now c.in_err-area.ensures.cut)

pub returns-in_err-line : goal.returns-in_err-line
returns-in_err-line c = c.from_residual-in_err-line.ensures
    ∙ sym (individual_of-two c.args.text.now c.in_ok-area.area.now c.in_ok-area.rest.now c.in_ok-area.ensures.cut
    c.in_err-line.ensures.cut)

pub returns : goal.returns
returns c = c.individual.ensures ∙ sym (individual_of-cut c.args.text.now c.in_ok-area.area.now c.in_ok-area.rest.now
    c.in_ok-line.line.now c.in_ok-line.device.now c.in_ok-area.ensures.cut c.in_ok-line.ensures.cut)
