use Rattle.std.proofs.Common.{◌≡◌, map, take}
use Rattle.install_run.specs.First.{first_place}
use Rattle.install_run.proofs.first.first_places.Given as goal

abbrev pub invariant-loop-node : goal.invariant-loop-node
invariant-loop-node l = l.places.items ≡ map (first_place l.rows) (take l.node-index l.nodes)
