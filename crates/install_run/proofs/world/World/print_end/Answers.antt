use Rattle.std.proofs.Common.{length}
use Rattle.step_text.specs.Text.{total_text}
use Rattle.step_text.proofs.Pieces.{then, no_more}
use Rattle.install_run.specs.Report.{nodes_text}
use Rattle.install_run.proofs.world.World.print_end.Goals as goal

pub returns-in_err-print_nodes-clause-text : goal.returns-in_err-print_nodes-clause-text
returns-in_err-print_nodes-clause-text g c =
    let s = c.args.self.now in
    no_more _ _ c.from_residual.result (nodes_text s.nodes s.world s.history)
    (total_text (length s.history) (length s.world.air)) c.from_residual.ensures.0 c.in_err-print_nodes.ensures.text

pub returns-clause-text : goal.returns-clause-text
returns-clause-text g c =
    let s = c.args.self.now in
    then _ _ _ c.print_last.result (nodes_text s.nodes s.world s.history)
    (total_text (length s.history) (length s.world.air)) c.in_ok-print_nodes.ensures.text c.print_last.ensures.text
