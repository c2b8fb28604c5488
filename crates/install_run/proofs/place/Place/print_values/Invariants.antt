use Rattle.std.proofs.Common.{◌≡◌, take, drop}
use Rattle.std.specs.List.{enumerate_from}
use Rattle.step_text.specs.Text.{value_text}
use Rattle.step_text.proofs.Pieces.{IsPrinted}
use Rattle.install_run.specs.Report.{values_of}
use Rattle.install_run.proofs.place.Place.print_values.Given as goal

-- the values so far are printed
abbrev pub invariant-objects : goal.invariant-objects
invariant-objects g l =
    let values = take 64 (values_of l.self.node.standing) in
    record {
      printed : IsPrinted value_text (enumerate_from 0 values) (drop l.object (enumerate_from 0 values))
          (g.S.Sink.octets l.fn.out) (g.S.Sink.octets l.out);
      kept : g.S.Sink.faults l.out ≡ g.S.Sink.faults l.fn.out;
    }
