use Rattle.std.proofs.Common.{◌≡◌, take}
use Rattle.node_core.specs.Node.{node_state}
use Rattle.install_run.proofs.power.marks_of.Given as goal

abbrev pub invariant-loop-lane : goal.invariant-loop-lane
invariant-loop-lane l = l.numbers.items ≡ take l.lane (node_state l.node).standing.numbers.marks
