use Rattle.std.proofs.Common.{◌≡◌}
use Rattle.measure.specs.Repeated.{cipher_repeated}
use Rattle.measure.proofs.encrypt_repeatedly.Given as goal

abbrev pub invariant-each : goal.invariant-each
invariant-each l = l.block ≡ cipher_repeated l.key l.initial.block l.counter
