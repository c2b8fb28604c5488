use Rattle.std.proofs.Common.{rules}
use Rattle.kdf_sha.specs.Hmac.{key_block}
use Rattle.kdf_sha.proofs.hmac.key_block.Goals as goal

pub returns-then-key-gt-BLOCK_OCTETS : goal.returns-then-key-gt-BLOCK_OCTETS
unfolding key_block
returns-then-key-gt-BLOCK_OCTETS c = search rules

pub returns-else-key-gt-BLOCK_OCTETS : goal.returns-else-key-gt-BLOCK_OCTETS
unfolding key_block
returns-else-key-gt-BLOCK_OCTETS c = search rules
