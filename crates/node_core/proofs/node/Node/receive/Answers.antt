use Rattle.node_core.specs.Node.{node_state}
use Rattle.node_core.proofs.Causes.{outcome_has_cause}
use Rattle.node_core.proofs.node.Node.receive.Goals as goal

pub returns-clause-cause : goal.returns-clause-cause
returns-clause-cause g c =
    let node = node_state c.args.self.now in
    outcome_has_cause node.config node.standing c.args.octets.now c.receive_octets.result c.args.self.now.config.values
    c.receive_octets.ensures.does
