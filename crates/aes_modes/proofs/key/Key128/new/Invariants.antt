use Rattle.std.proofs.Common.{◌≡◌, ℕ, ◌≤◌, length, slice_index_or, []}
use Rattle.aes_modes.specs.Cipher.{key_expansion}
use Rattle.aes_modes.specs.Words.{columns_of}
use Rattle.aes_modes.proofs.key.Key128.new.Given as goal

abbrev pub invariant-expansion : goal.invariant-expansion
invariant-expansion l = record {
  long : length l.round_keys ≡ 11;
  expanded : (i : ℕ) → i ≤ l.n → slice_index_or l.round_keys i [] ≡ columns_of (key_expansion l.fn.key i);
}
