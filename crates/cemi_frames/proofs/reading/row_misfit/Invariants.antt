use Rattle.std.proofs.Common.{◌≡◌, ◌+◌, ◌-◌, ◌≤◌, length}
use Rattle.cemi_frames.specs.Faults.{misfit}
use Rattle.cemi_frames.proofs.reading.row_misfit.Given as goal

abbrev pub invariant-loop-rest : goal.invariant-loop-rest
invariant-loop-rest l = record {
  within : length l.rest ≤ length l.info;
  same : misfit (length l.rest) (2 + (length l.info - length l.rest)) l.rest ≡ misfit (length l.info) 2 l.info;
}

abbrev pub decreases-loop-rest : goal.decreases-loop-rest
decreases-loop-rest l = length l.rest
