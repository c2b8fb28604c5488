use Rattle.std.proofs.Common.{◌≡◌, drop}
use Rattle.std.specs.List.{zip}
use Rattle.step_text.specs.Text.{kept_text}
use Rattle.step_text.proofs.Pieces.{IsPrinted}
use Rattle.install_run.specs.Printing.{numbers_of}
use Rattle.install_run.proofs.place.Place.print_all_kept.Given as goal

-- the lanes so far are printed
abbrev pub invariant-lanes : goal.invariant-lanes
invariant-lanes g l =
    let pairs = zip l.self.node.config.lanes (numbers_of l.self.node).marks in
    record {
      printed : IsPrinted kept_text pairs (drop l.index pairs) (g.S.Sink.octets l.fn.out) (g.S.Sink.octets l.out);
      kept : g.S.Sink.faults l.out ≡ g.S.Sink.faults l.fn.out;
    }
