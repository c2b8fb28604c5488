use Rattle.std.proofs.Common.{ℕ, ◌^◌, ◌<◌, ap, sym, subst, ◌∙◌, rules}
use Rattle.secure_apdu.specs.Sync.{xor_number}
use Rattle.exchange_law.proofs.Exchanges.{are_between, request_judged, answer_judged}
use Rattle.exchange_law.proofs.law.exchange_is_judged.Goals as goal

pub returns-clause-between : goal.returns-clause-between
returns-clause-between c =
    are_between c.args.key.now c.args.source c.args.destination c.args.number c.args.challenge c.args.kept

pub returns-clause-request : goal.returns-clause-request
returns-clause-request c = request_judged c.args.key.now c.args.source c.args.destination c.args.number c.args.challenge
    c.get.ensures.fits (search rules)

pub returns-clause-answer : goal.returns-clause-answer
returns-clause-answer c =
    answer_judged c.args.key.now c.args.source c.args.destination c.args.number c.args.challenge c.args.kept
    c.get.ensures.fits c.get-3.ensures.fits
    (subst (λ (n : ℕ). n < 2 ^ 48) c.xor_number-shown.ensures.value c.get-2.ensures.fits)
    (ap (xor_number c.args.challenge) (sym c.xor_number-shown.ensures.value) ∙ c.xor_number-shown.ensures.twice)
