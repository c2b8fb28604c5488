use Rattle.std.proofs.Common.{◌≡◌, ℕ, ◌<◌, ◌≤◌, get_or, bit_xor, length}
use Rattle.kdf_sha.proofs.xor.xored.Given as goal

-- the octets before the index are XORed, the others those of the left side
abbrev pub invariant-octets : goal.invariant-octets
invariant-octets g l = record {
  long : length l.both ≡ g.row.N;
  done : (k : ℕ) → k < l.i → get_or l.both k 0 ≡ bit_xor (get_or l.left k 0) (get_or l.right k 0);
  left_over : (k : ℕ) → l.i ≤ k → get_or l.both k 0 ≡ get_or l.left k 0;
}
