use Rattle.std.proofs.Common.{◌≡◌, ◌-◌, List, ℕ}
use Rattle.aes_modes.specs.Cipher.{IsBlock, rounds, cipher}
use Rattle.aes_modes.specs.Words.{block_of}
use Rattle.aes_modes.proofs.key.Key128.decrypt_block.Given as goal

abbrev pub invariant-rounds : goal.invariant-rounds
invariant-rounds l = record {
  back : (b : List ℕ) → rounds l.self b (10 - l.n) ≡ block_of l.state → cipher l.self b ≡ l.block;
  only : (b : List ℕ) → IsBlock b → cipher l.self b ≡ l.block → rounds l.self b (10 - l.n) ≡ block_of l.state;
}
