-- the records so far are open
use Rattle.std.proofs.Common.{◌≡◌, ◌+◌, ◌-◌, ◌*◌}
use Rattle.seq_store.specs.Ring.{first_shut}
use Rattle.seq_store.proofs.bank.first_shut.Given as goal

abbrev pub invariant-loop-k : goal.invariant-loop-k
invariant-loop-k l = first_shut 1 l.octets (16 - l.k) (l.records + 8 * l.k) ≡ first_shut 1 l.octets 16 l.records
