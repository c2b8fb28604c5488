use Rattle.std.proofs.Common.{None, Some, arith}
use Rattle.std.proofs.lemmas.Str.Pattern.{strip_prefix_char}
use Rattle.datapoints.proofs.TextLemmas.{no_minus, only_plain, only_minus}
use Rattle.datapoints.proofs.number_texts.cut_sign.Goals as goal

pub returns-in-None-clause-only : goal.returns-in-None-clause-only
returns-in-None-clause-only c =
    only_plain c.args.text.now (no_minus c.args.text.now
    (strip_prefix_char 45 c.args.text.now None c.in-None.ensures.cases (omega arith)))

pub returns-in-Some-clause-only : goal.returns-in-Some-clause-only
returns-in-Some-clause-only c =
    only_minus c.args.text.now c.in-Some.rest.now
    (strip_prefix_char 45 c.args.text.now (Some c.in-Some.rest) c.in-Some.ensures.cases (omega arith))
