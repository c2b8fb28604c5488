use Rattle.std.proofs.Common.{◌≡◌, drop}
use Rattle.std.specs.List.{zip}
use Rattle.step_text.specs.Text.{mark_text}
use Rattle.step_text.proofs.Pieces.{IsPrinted}
use Rattle.step_text.proofs.line.print_marks.Given as goal

-- the marks so far are printed
abbrev pub invariant-loop-index : goal.invariant-loop-index
invariant-loop-index g l = record {
  printed : IsPrinted mark_text (zip l.lanes l.marks) (drop l.index (zip l.lanes l.marks)) (g.S.Sink.octets l.fn.out)
      (g.S.Sink.octets l.out);
  kept : g.S.Sink.faults l.out ≡ g.S.Sink.faults l.fn.out;
}
