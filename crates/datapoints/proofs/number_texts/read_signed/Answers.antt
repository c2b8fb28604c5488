use Rattle.std.proofs.Common.{◌-◌, ◌*◌, subst, sym, ap, ◌∙◌, arith, ◌++◌}
use Rattle.std.specs.Fmt.{sign_text}
use Rattle.std.proofs.lemmas.Fmt.{decimal_injective}
use Rattle.datapoints.specs.Parsing.{IsOnlySign}
use Rattle.datapoints.proofs.TextLemmas.{minus_number, signed_plain}
use Rattle.datapoints.proofs.number_texts.read_signed.Goals as goal

pub returns-in_err-below_zero : goal.returns-in_err-below_zero
returns-in_err-below_zero c = rw c.from_residual.ensures (λ n small is.
    let text = c.args.text.now in let cut = c.cut_sign-negative in
    let only = subst (λ b. IsOnlySign text b cut.result.1.now) c.if-not-negative.false cut.ensures.only in
    let number = minus_number c.args.half n text cut.result.1.now c.requires.most small only is in
    c.in_err-below_zero.ensures.none (2 * c.args.half - n) (omega (arith, number.0)) number.1)

pub returns-in-0 : goal.returns-in-0
returns-in-0 c = λ n small is.
    let text = c.args.text.now in let cut = c.cut_sign-negative in
    let only = subst (λ b. IsOnlySign text b cut.result.1.now) c.if-not-negative.false cut.ensures.only in
    let number = minus_number c.args.half n text cut.result.1.now c.requires.most small only is in
    let same = decimal_injective c.in_ok-below_zero.below_zero (2 * c.args.half - n) (omega arith) (omega arith)
    (sym c.in_ok-below_zero.ensures.found.1 ∙ number.1) in
    omega (arith, same, number.0)

pub returns-then-not-negative : goal.returns-then-not-negative
returns-then-not-negative c =
    let text = c.args.text.now in let cut = c.cut_sign-negative in
    let only = subst (λ b. IsOnlySign text b cut.result.1.now) c.if-not-negative.true cut.ensures.only in
    signed_plain c.args.half text cut.result.1.now c.read_decimal.result c.requires.least c.requires.most only
    (cut.ensures.whole ∙ ap (λ b. sign_text b ++ cut.result.1.now) c.if-not-negative.true)
    c.read_decimal.ensures.found c.read_decimal.ensures.none
