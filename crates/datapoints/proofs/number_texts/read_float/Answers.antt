use Rattle.datapoints.proofs.FloatLemmas.{no_float, float_named}
use Rattle.datapoints.proofs.number_texts.read_float.Goals as goal

pub returns-in_err-read_hundredths-clause-number : goal.returns-in_err-read_hundredths-clause-number
returns-in_err-read_hundredths-clause-number c = rw c.from_residual.ensures (λ n small valid.
    no_float c.args.text.now c.cut_sign-negative.result.1.now c.cut_sign-negative.result.0
    c.cut_sign-negative.ensures.only c.in_err-read_hundredths.ensures.number n)

pub returns : goal.returns
returns c =
    let cut = c.cut_sign-negative in
    let both = float_named c.args.text.now cut.result.1.now cut.result.0 c.in_ok-read_hundredths.field-0
    c.least_form.result cut.ensures.only cut.ensures.whole c.in_ok-read_hundredths.ensures.number.1
    c.in_ok-read_hundredths.ensures.only c.least_form.ensures in
    record { number = both.0; least = both.1 }
