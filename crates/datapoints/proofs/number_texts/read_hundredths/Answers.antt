use Rattle.std.proofs.Common.{◌≡◌, ◌+◌, ◌*◌, sym, ap, ◌∙◌, arith}
use Rattle.datapoints.specs.Values.{two_digits}
use Rattle.datapoints.proofs.FixedTexts.{two_long}
use Rattle.datapoints.proofs.TextLemmas.{hundredths_read, only_hundredths}
use Rattle.datapoints.proofs.number_texts.read_hundredths.Goals as goal

pub returns-clause-number : goal.returns-clause-number
returns-clause-number c =
    let bytes = c.as_bytes.result.now in
    let two : bytes ≡ two_digits c.in_ok-part.part =
    two_long bytes (omega arith) (omega arith) ∙ c.in_ok-part.ensures.1 in
    hundredths_read c.args.text.now c.in_ok-whole.whole.now c.in_ok-whole.part.now c.in_ok-whole-2.whole
    c.in_ok-part.part c.from.result c.in_ok-whole.ensures.0 c.in_ok-whole-2.ensures.found.1
    c.in_ok-whole-2.ensures.found.0 c.in_ok-part.ensures.0 (sym c.as_bytes.ensures.value ∙ two) c.from.ensures

pub returns-clause-only : goal.returns-clause-only
returns-clause-only c = λ other small is.
    let bytes = c.as_bytes.result.now in
    let two : bytes ≡ two_digits c.in_ok-part.part =
    two_long bytes (omega arith) (omega arith) ∙ c.in_ok-part.ensures.1 in
    only_hundredths c.in_ok-whole-2.whole c.in_ok-part.part other c.in_ok-whole.whole.now c.in_ok-whole.part.now
    (omega (arith, c.in_ok-whole-2.ensures.found.0)) c.in_ok-part.ensures.0 small c.in_ok-whole-2.ensures.found.1
    (sym c.as_bytes.ensures.value ∙ two) (c.in_ok-whole.ensures.1 other small is)
    ∙ ap (λ n. c.in_ok-whole-2.whole * 100 + n) (sym c.from.ensures)
