-- the greatest so far and that of the records left are the value of the bank
use Rattle.std.proofs.Common.{◌≡◌, ◌+◌, ◌-◌, ◌*◌, max}
use Rattle.seq_store.specs.Ring.{records_number, bank_value}
use Rattle.seq_store.proofs.bank.bank_value.Given as goal

abbrev pub invariant-loop-k : goal.invariant-loop-k
invariant-loop-k l = max l.number (records_number 1 l.octets l.value (16 - l.k) (l.records + 8 * l.k))
    ≡ bank_value 1 l.values l.octets l.at l.value
