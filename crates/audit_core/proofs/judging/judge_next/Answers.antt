use Rattle.std.proofs.Common.{ap, sym, ◌∙◌}
use Rattle.sync_service.specs.Open.{asked_in}
use Rattle.cemi_frames.specs.Reading.{frame_at}
use Rattle.audit_core.specs.Audit.{unless_fault, line_under}
use Rattle.audit_core.specs.Marks.{mark_in}
use Rattle.audit_core.specs.State.{noted}
use Rattle.audit_core.proofs.judging.judge_next.Goals as goal

pub returns-in-Err-clause-line : goal.returns-in-Err-clause-line
returns-in-Err-clause-line c =
    c.fault_line.ensures c.args.tables.now (mark_in c.args.past.now.marks) (asked_in c.args.past.now.asked)
    ∙ ap (λ found. line_under c.args.tables.now c.args.index (mark_in c.args.past.now.marks)
    (asked_in c.args.past.now.asked) (unless_fault found (frame_at c.args.octets.now))) (sym c.in-Err.ensures.exact)

pub returns-in-Err-clause-noted : goal.returns-in-Err-clause-noted
returns-in-Err-clause-noted c =
    sym (ap (λ line. noted line (asked_in c.args.past.now.asked))
    (c.fault_line.ensures c.args.tables.now (mark_in c.args.past.now.marks) (asked_in c.args.past.now.asked)))
