use Rattle.std.proofs.Common.{[], ◌∷◌, sym, None}
use Rattle.cemi_frames.specs.Frames.{telegram}
use Rattle.judge_rules.specs.Parts.{shown_in}
use Rattle.judge_rules.specs.Checks.{secure_checks, check_pending, check_code}
use Rattle.judge_rules.proofs.Failing.{first_failing-stays}
use Rattle.knxsec_app.proofs.opening.refuse_frame.Goals as goal

pub returns-in-Err-clause-refusal : goal.returns-in-Err-clause-refusal
returns-in-Err-clause-refusal c =
    let t = telegram c.args.frame.now in
    sym (first_failing-stays (secure_checks t) (check_pending None t ∷ check_code c.args.key.now (shown_in t) t ∷ [])
    c.in-Err.verdict c.in-Err.ensures.verdict)
