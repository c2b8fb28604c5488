use Rattle.std.proofs.Common.{◌≡◌, ℕ, ◌*◌, ◌<◌, ◌≤◌, length, slice_index, slice_set}
use Rattle.aes_modes.specs.Octet.{◌⊕◌}
use Rattle.aes_modes.specs.Modes.{stream_of}
use Rattle.aes_modes.proofs.counter.ctr_apply.Given as goal

abbrev pub invariant-each : goal.invariant-each
invariant-each l = record {
  counter : (x : ℕ) → slice_set l.counter 15 x ≡ slice_set l.ctr0 15 x;
  done : (i : ℕ) → i < 16 * l.n → i < length l.initial.octets
      → slice_index l.octets i ≡ slice_index l.initial.octets i ⊕ stream_of l.key l.ctr0 i;
  rest : (i : ℕ) → 16 * l.n ≤ i → slice_index l.octets i ≡ slice_index l.initial.octets i;
}
