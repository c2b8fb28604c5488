use Rattle.std.proofs.Common.{refl}
use Rattle.node_core.proofs.Firsts.{raises_first}
use Rattle.node_core.proofs.config.Config.build.Goals as goal

pub returns-clause-raises_first : goal.returns-clause-raises_first
returns-clause-raises_first c ok =
    raises_first c.args.address c.args.rows.now c.args.objects.now (c.in-Ok-node_lanes.ensures.senders refl)
