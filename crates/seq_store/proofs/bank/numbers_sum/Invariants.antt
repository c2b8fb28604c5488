-- the sum so far
use Rattle.std.proofs.Common.{◌≡◌, ◌≤◌}
use Rattle.seq_store.specs.Ring.{numbers_sum}
use Rattle.seq_store.proofs.bank.numbers_sum.Given as goal

abbrev pub invariant-loop-v : goal.invariant-loop-v
invariant-loop-v l = l.sum ≡ numbers_sum l.octets l.at l.v
