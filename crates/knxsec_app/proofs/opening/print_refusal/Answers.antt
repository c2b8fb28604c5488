use Rattle.std.proofs.Common.{[], ◌∷◌}
use Rattle.knx_base.proofs.Printing.{prints_then, prints_no_more}
use Rattle.judge_rules.specs.Text.{verdict_text}
use Rattle.knxsec_app.proofs.opening.print_refusal.Goals as goal

pub returns-clause-text : goal.returns-clause-text
returns-clause-text g c =
    prints_then _ _ _ c.print_text.result (verdict_text c.args.verdict.now []) (10 ∷ [])
    c.in_ok-write_verdict.ensures.text c.print_text.ensures.text

pub returns-in_err-write_verdict-clause-text : goal.returns-in_err-write_verdict-clause-text
returns-in_err-write_verdict-clause-text g c =
    prints_no_more _ _ c.from_residual.result (verdict_text c.args.verdict.now []) (10 ∷ [])
    c.from_residual.ensures.0 c.in_err-write_verdict.ensures.text
