use Rattle.std.proofs.Common.{◌≡◌, ℕ, ◌+◌, ◌*◌, ◌/◌, ◌%◌, ◌<◌, ◌≤◌, slice_index}
use Rattle.aes_modes.specs.Modes.{chained}
use Rattle.aes_modes.proofs.cbc.cbc_encrypt.Given as goal

abbrev pub invariant-each : goal.invariant-each
invariant-each l = record {
  block : l.block ≡ chained l.key l.iv l.initial.octets l.n;
  done : (i : ℕ) → i < 16 * l.n → slice_index l.octets i ≡ slice_index
      (chained l.key l.iv l.initial.octets (i / 16 + 1)) (i % 16);
  rest : (i : ℕ) → 16 * l.n ≤ i → slice_index l.octets i ≡ slice_index l.initial.octets i;
}
