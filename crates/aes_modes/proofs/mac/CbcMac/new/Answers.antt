use Rattle.std.proofs.Common.{refl}
use Rattle.aes_modes.specs.Cipher.{xor_blocks}
use Rattle.aes_modes.specs.Modes.{block_at, chained}
use Rattle.aes_modes.proofs.mac.CbcMac.new.Goals as goal

pub returns-clause-nothing_fed : goal.returns-clause-nothing_fed
unfolding xor_blocks block_at chained
returns-clause-nothing_fed c = record { used = refl; block = refl }
