use Rattle.std.proofs.Common.{◌≡◌, drop}
use Rattle.std.specs.List.{zip}
use Rattle.step_text.proofs.Pieces.{IsPrinted}
use Rattle.install_run.specs.Printing.{place_summary}
use Rattle.install_run.proofs.world.summary.print_nodes.Given as goal

-- the nodes so far are printed
abbrev pub invariant-places : goal.invariant-places
invariant-places g l = record {
  printed : IsPrinted place_summary (zip l.nodes l.places) (drop l.index (zip l.nodes l.places))
      (g.S.Sink.octets l.fn.out) (g.S.Sink.octets l.out);
  kept : g.S.Sink.faults l.out ≡ g.S.Sink.faults l.fn.out;
}
