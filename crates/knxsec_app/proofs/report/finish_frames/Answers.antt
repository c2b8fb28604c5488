use Rattle.knxsec_app.proofs.Refused.{ends_list}
use Rattle.knxsec_app.proofs.report.finish_frames.Goals as goal

pub returns-in_default-clause-answer : goal.returns-in_default-clause-answer
returns-in_default-clause-answer g c =
    ends_list c.args.fault.now c.args.page.now.held _ _ _ _ c.in_default.not-ReadFault c.in_default.not-NoMemory
    c.frames_line.ensures c.finish_refused.ensures.answer
