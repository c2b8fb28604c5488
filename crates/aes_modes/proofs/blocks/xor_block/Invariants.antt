use Rattle.std.proofs.Common.{◌≡◌, ℕ, ◌<◌, ◌≤◌, length, slice_index}
use Rattle.aes_modes.specs.Octet.{◌⊕◌}
use Rattle.aes_modes.proofs.blocks.xor_block.Given as goal

abbrev pub invariant-octets : goal.invariant-octets
invariant-octets l = record {
  long : length l.block ≡ 16;
  done : (j : ℕ) → j < l.i → slice_index l.block j ≡ slice_index l.initial.block j ⊕ slice_index l.other j;
  rest : (j : ℕ) → l.i ≤ j → slice_index l.block j ≡ slice_index l.initial.block j;
}
