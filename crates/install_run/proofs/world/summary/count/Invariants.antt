use Rattle.std.proofs.Common.{◌≡◌, ◌≤◌, take}
use Rattle.install_run.specs.Printing.{is_kind}
use Rattle.install_run.specs.Summary.{count_of}
use Rattle.install_run.proofs.world.summary.count.Given as goal

-- the steps so far are counted
abbrev pub invariant-loop-step : goal.invariant-loop-step
invariant-loop-step l = record {
  counted : l.count ≡ count_of (is_kind l.kind) (take l.step-index l.steps);
  below : l.count ≤ l.step-index;
}
