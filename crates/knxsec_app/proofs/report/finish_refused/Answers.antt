use Rattle.knxsec_app.proofs.Answering.{prefix_more}
use Rattle.knxsec_app.proofs.report.finish_refused.Goals as goal

pub returns-in-Err-clause-answer : goal.returns-in-Err-clause-answer
returns-in-Err-clause-answer g c = prefix_more _ _ c.args.page.now.held c.args.line.now c.in-Err.ensures.text
