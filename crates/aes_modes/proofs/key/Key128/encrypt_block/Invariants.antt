use Rattle.std.proofs.Common.{◌≡◌, ◌-◌}
use Rattle.aes_modes.specs.Cipher.{rounds}
use Rattle.aes_modes.specs.Words.{block_of}
use Rattle.aes_modes.proofs.key.Key128.encrypt_block.Given as goal

abbrev pub invariant-rounds : goal.invariant-rounds
invariant-rounds l = block_of l.state ≡ rounds l.self l.block (l.n - 1)
