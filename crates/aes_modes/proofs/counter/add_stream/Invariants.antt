use Rattle.std.proofs.Common.{◌≡◌, ℕ, ◌+◌, ◌<◌, ◌≤◌, slice_index}
use Rattle.aes_modes.specs.Octet.{◌⊕◌}
use Rattle.aes_modes.proofs.counter.add_stream.Given as goal

abbrev pub invariant-octets : goal.invariant-octets
invariant-octets l = record {
  done : (j : ℕ) → j < l.i → slice_index l.octets (l.start + j)
      ≡ slice_index l.initial.octets (l.start + j) ⊕ slice_index l.stream j;
  before : (j : ℕ) → j < l.start → slice_index l.octets j ≡ slice_index l.initial.octets j;
  rest : (j : ℕ) → l.start + l.i ≤ j → slice_index l.octets j ≡ slice_index l.initial.octets j;
}
