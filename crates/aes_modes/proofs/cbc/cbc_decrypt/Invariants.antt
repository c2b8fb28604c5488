use Rattle.std.proofs.Common.{◌≡◌, List, ℕ, ◌+◌, ◌*◌, ◌/◌, ◌%◌, ◌<◌, ◌≤◌, length, slice_index}
use Rattle.aes_modes.specs.Cipher.{AreOctets, IsBlock}
use Rattle.aes_modes.specs.Modes.{chained, cbc_of}
use Rattle.aes_modes.proofs.cbc.cbc_decrypt.Given as goal

abbrev pub invariant-each : goal.invariant-each
invariant-each l = record {
  octets : IsBlock l.before;
  before : l.before ≡ chained l.key l.iv l.octets l.n;
  done : (i : ℕ) → i < 16 * l.n → slice_index (chained l.key l.iv l.octets (i / 16 + 1)) (i % 16)
      ≡ slice_index l.initial.octets i;
  rest : (i : ℕ) → 16 * l.n ≤ i → slice_index l.octets i ≡ slice_index l.initial.octets i;
  only : (plain : List ℕ) → length plain ≡ length l.initial.octets → AreOctets plain
      → cbc_of l.key l.iv plain ≡ l.initial.octets
      → (i : ℕ) → i < 16 * l.n → slice_index plain i ≡ slice_index l.octets i;
}
