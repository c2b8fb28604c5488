use Rattle.std.proofs.Common.{[], ◌∷◌, ◌∙◌}
use Rattle.aes_modes.specs.Words.{block_of}
use Rattle.aes_modes.proofs.Octets.{block_of-columns_of}
use Rattle.aes_modes.proofs.rounds.load.Goals as goal

pub returns-clause-same : goal.returns-clause-same
returns-clause-same c =
    (λ i. block_of (c.from_be_bytes.ensures i ∷ c.from_be_bytes-2.ensures i ∷ c.from_be_bytes-3.ensures i
    ∷ c.from_be_bytes-4.ensures i ∷ []))
    ∙ block_of-columns_of c.args.block.now (record { length = c.told-block; octets = c.fits-block })
