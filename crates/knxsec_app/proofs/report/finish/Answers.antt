use Rattle.std.proofs.Common.{◌≡◌, subst}
use Rattle.std.specs.Prelude.{MatchResult}
use Rattle.knxsec_app.specs.declared.status.Status.TheVariants.{WriteFault}
use Rattle.audit_core.specs.Text.{total_text}
use Rattle.knx_base.proofs.Printing.{prints_then}
use Rattle.knxsec_app.specs.Auditing.{total_status}
use Rattle.knxsec_app.proofs.Answering.{ended_answers, total_status-of_answer, prefix_more}
use Rattle.knxsec_app.proofs.report.finish.Goals as goal

pub returns-in-Ok-clause-answer : goal.returns-in-Ok-clause-answer
returns-in-Ok-clause-answer g c =
    ended_answers c.print_total.result _ _ _ (total_status c.args.audit.now.total) c.ended.result
    (total_status-of_answer c.args.audit.now.total)
    (prints_then _ _ _ c.print_total.result c.args.page.now.held (total_text c.args.audit.now.total)
    c.in-Ok.ensures.text c.print_total.ensures.text)
    (subst (λ status. MatchResult c.print_total.result (λ _. c.ended.result ≡ status)
    (λ _. c.ended.result ≡ WriteFault)) c.total_status.ensures c.ended.ensures)

pub returns-in-Err-clause-answer : goal.returns-in-Err-clause-answer
returns-in-Err-clause-answer g c =
    prefix_more _ _ c.args.page.now.held (total_text c.args.audit.now.total) c.in-Err.ensures.text
