use Rattle.std.proofs.Common.{ap, length}
use Rattle.seq_store.specs.Refusal.{refusal_of}
use Rattle.node_core.proofs.Starting.{unformatted_as}
use Rattle.node_core.proofs.node.Node.start.Goals as goal

pub returns-in-Ok-clause-unformatted : goal.returns-in-Ok-clause-unformatted
returns-in-Ok-clause-unformatted g c =
    unformatted_as (ap length c.as_slice.ensures) (ap refusal_of c.in-Ok.is) c.start.ensures.unformatted

pub returns-in-Err-clause-unformatted : goal.returns-in-Err-clause-unformatted
returns-in-Err-clause-unformatted g c =
    unformatted_as (ap length c.as_slice.ensures) (ap refusal_of c.in-Err.is) c.start.ensures.unformatted
