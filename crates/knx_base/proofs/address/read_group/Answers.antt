use Rattle.std.proofs.Common.{sym, ◌∙◌}
use Rattle.knx_base.proofs.AddressLemmas.{group_of-one, group_of-two, group_of-three}
use Rattle.knx_base.proofs.address.read_group.Goals as goal

pub returns-in_default : goal.returns-in_default
returns-in_default c = c.part.ensures.number ∙ sym (group_of-one c.args.text.now c.in_default.ensures.cut)

pub returns-in-None : goal.returns-in-None
returns-in-None c = c.two_level.ensures ∙ sym (group_of-two c.args.text.now c.in-Some.main.now c.in-Some.rest.now
    c.in-Some.ensures.cut c.in-None.ensures.cut)

pub returns-in-Some-cut_at : goal.returns-in-Some-cut_at
returns-in-Some-cut_at c = c.three_level.ensures ∙ sym (group_of-three c.args.text.now c.in-Some.main.now
    c.in-Some.rest.now c.in-Some-cut_at.middle.now c.in-Some-cut_at.sub.now c.in-Some.ensures.cut
    c.in-Some-cut_at.ensures.cut)
