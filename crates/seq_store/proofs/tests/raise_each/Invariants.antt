use Rattle.std.proofs.Common.{◌≡◌}
use Rattle.seq_store.specs.Store.{store_state, lanes_of}
use Rattle.seq_store.proofs.tests.raise_each.Given as goal

-- a raise leaves the number of lanes
abbrev pub invariant-loop-mark : goal.invariant-loop-mark
invariant-loop-mark l = lanes_of (store_state l.store) ≡ 2
