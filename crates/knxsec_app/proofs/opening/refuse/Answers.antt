use Rattle.std.proofs.Common.{Option, ◌∷◌, sym, ap, ◌∙◌}
use Rattle.std.specs.Prelude.{option_map}
use Rattle.cemi_frames.specs.declared.frame.NotFrame.{NotFrame}
use Rattle.cemi_frames.specs.Frames.{Telegram}
use Rattle.cemi_frames.specs.Reading.{frame_at}
use Rattle.judge_rules.specs.declared.verdict.Verdict.TheVariants as verdict
use Rattle.judge_rules.specs.Parts.{shown_in}
use Rattle.judge_rules.specs.Checks.{apdu_in, first_failing}
use Rattle.knxsec_app.specs.Opening.{telegram_checks, refusal_of, apdu_of}
use Rattle.knxsec_app.proofs.opening.refuse.Goals as goal

pub returns-in-Ok-clause-refusal : goal.returns-in-Ok-clause-refusal
unfolding refusal_of
returns-in-Ok-clause-refusal c =
    let key = c.args.key.now in
    let octets = c.args.octets.now in
    let exact = c.in-Ok.ensures.exact in
    c.refuse_frame.ensures.refusal
    ∙ ap (λ (t : Telegram). first_failing (telegram_checks key t)) exact.1
    ∙ ap (λ (f : Option NotFrame). first_failing (option_map verdict.NotFrame f
    ∷ telegram_checks key (frame_at octets))) (sym exact.0)

pub returns-in-Ok-clause-opened : goal.returns-in-Ok-clause-opened
unfolding apdu_of
returns-in-Ok-clause-opened c = λ none.
    c.refuse_frame.ensures.opened none
    ∙ ap (λ (t : Telegram). apdu_in c.args.key.now (shown_in t) t) c.in-Ok.ensures.exact.1

pub returns-in-Err-clause-refusal : goal.returns-in-Err-clause-refusal
unfolding refusal_of
returns-in-Err-clause-refusal c =
    let key = c.args.key.now in
    let octets = c.args.octets.now in
    ap (λ (f : Option NotFrame). first_failing (option_map verdict.NotFrame f ∷ telegram_checks key (frame_at octets)))
    (sym c.in-Err.ensures.exact)
