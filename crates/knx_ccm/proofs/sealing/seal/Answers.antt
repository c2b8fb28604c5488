use Rattle.knx_ccm.proofs.SealingLemmas.{sealed_by}
use Rattle.knx_ccm.proofs.sealing.seal.Goals as goal

pub returns-clause-sealed : goal.returns-clause-sealed
returns-clause-sealed c = sealed_by c.args.key.now c.args.head.now c.args.apdu.now _ _ _ _ _
    c.code.ensures c.join.ensures c.cipher.ensures c.wire.ensures
