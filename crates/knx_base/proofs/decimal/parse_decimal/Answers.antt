use Rattle.std.proofs.Common.{arith, sym, ◌∙◌, ◌^◌, ◌-◌}
use Rattle.knx_base.proofs.DecimalLemmas.{decimal_up_to-padded, result_ok-parse}
use Rattle.knx_base.proofs.decimal.parse_decimal.Goals as goal

pub returns-then-is_padded : goal.returns-then-is_padded
returns-then-is_padded c =
    sym (decimal_up_to-padded (2 ^ 64 - 1) c.args.text.now (omega arith) (c.is_padded.ensures.0 c.if-is_padded.true))

pub returns : goal.returns
returns c = c.ok.ensures.value ∙ result_ok-parse c.args.text.now c.parse.result c.parse.ensures.value.0
    (λ padded. let is = c.is_padded.ensures.1 padded in cc)
