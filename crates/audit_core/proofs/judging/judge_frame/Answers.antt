use Rattle.std.proofs.Common.{ap, sym, ◌∙◌}
use Rattle.cemi_frames.specs.Frames.{telegram}
use Rattle.sync_service.specs.Open.{asked_in}
use Rattle.audit_core.specs.State.{noted}
use Rattle.audit_core.proofs.Exchanging.{exchanged_is_noted}
use Rattle.audit_core.proofs.judging.judge_frame.Goals as goal

pub returns-clause-noted : goal.returns-clause-noted
returns-clause-noted c =
    c.in_ok-take.ensures.asked
    ∙ exchanged_is_noted c.args.tables.now c.args.index (telegram c.args.frame.now) c.judge-judgement.result.verdict
    (asked_in c.args.past.now.asked)
    ∙ ap (λ line. noted line (asked_in c.args.past.now.asked)) (sym c.telegram_line.ensures)
