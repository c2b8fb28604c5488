use Rattle.std.proofs.Common.{◌++◌, subst}
use Rattle.knx_base.specs.Sink.{Prints}
use Rattle.step_text.specs.Text.{made_text, tally_text}
use Rattle.step_text.proofs.Pieces.{then, no_more}
use Rattle.install_run.specs.Summary.{summaries_text}
use Rattle.install_run.proofs.world.World.print_summary.Goals as goal

pub returns-in_err-print_made-clause-text : goal.returns-in_err-print_made-clause-text
returns-in_err-print_made-clause-text g c =
    let s = c.args.self.now in
    let made = made_text c.args.number c.args.count in
    let rest = summaries_text s.nodes s.world s.history in
    subst (λ tally. Prints (g.S.Sink.octets c.args.out.now) (g.S.Sink.octets c.print_made.new.out)
    c.from_residual.result ((made ++ tally_text tally) ++ rest)) c.tally.ensures
    (no_more _ _ c.from_residual.result (made ++ tally_text c.tally.result) rest c.from_residual.ensures.0
    c.in_err-print_made.ensures.text)

pub returns-clause-text : goal.returns-clause-text
returns-clause-text g c =
    let s = c.args.self.now in
    let made = made_text c.args.number c.args.count in
    let rest = summaries_text s.nodes s.world s.history in
    subst (λ tally. Prints (g.S.Sink.octets c.args.out.now) (g.S.Sink.octets c.print_summaries.new.out)
    c.print_summaries.result ((made ++ tally_text tally) ++ rest)) c.tally.ensures
    (then _ _ _ c.print_summaries.result (made ++ tally_text c.tally.result) rest c.in_ok-print_made.ensures.text
    c.print_summaries.ensures.text)
