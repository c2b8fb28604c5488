use Rattle.aes_modes.proofs.Octets.{block_of-⊕}
use Rattle.aes_modes.proofs.rounds.add_key.Goals as goal

pub returns : goal.returns
returns c = block_of-⊕ c.args.s c.args.k
