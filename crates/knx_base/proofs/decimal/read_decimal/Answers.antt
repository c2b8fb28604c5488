use Rattle.std.proofs.Common.{ap, ◌∙◌, arith}
use Rattle.knx_base.specs.Decimal.{at_most}
use Rattle.knx_base.proofs.DecimalLemmas.{decimal_answer, at_most-decimal_up_to}
use Rattle.knx_base.proofs.decimal.read_decimal.Goals as goal

pub returns-clause-number : goal.returns-clause-number
returns-clause-number c = c.within.ensures ∙ ap (at_most c.args.most) c.parse_decimal.ensures
    ∙ at_most-decimal_up_to c.args.most c.args.text.now (omega arith)

pub returns-clause-found : goal.returns-clause-found
returns-clause-found c = (decimal_answer c.args.most c.args.text.now c.within.result (omega arith)
    (c.within.ensures ∙ ap (at_most c.args.most) c.parse_decimal.ensures
    ∙ at_most-decimal_up_to c.args.most c.args.text.now (omega arith))).0

pub returns-clause-none : goal.returns-clause-none
returns-clause-none c = (decimal_answer c.args.most c.args.text.now c.within.result (omega arith)
    (c.within.ensures ∙ ap (at_most c.args.most) c.parse_decimal.ensures
    ∙ at_most-decimal_up_to c.args.most c.args.text.now (omega arith))).1
