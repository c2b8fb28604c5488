use Rattle.std.proofs.Common.{rules, ap}
use Rattle.install_run.specs.Slot.{slot_at}
use Rattle.node_core.specs.Receiving.{receive_transition}
use Rattle.node_core.specs.Node.{node_state}
use Rattle.install_run.proofs.Sounding.{sound_call, raised_call}
use Rattle.install_run.proofs.slot.Slot.receive.Goals as goal

pub returns-clause-sound : goal.returns-clause-sound
returns-clause-sound c = λ _. sound_call _ (node_state c.in-Started.node) (node_state c.receive.new.self)
    c.in-Started.node.lanes c.receive.ensures.does.config c.receive.ensures.runs.now

pub returns-clause-raised : goal.returns-clause-raised
returns-clause-raised c =
    rw c.in-Some.is
    (raised_call (λ config s. (receive_transition config s c.in-Some.octets.now).raises) c.args.self.now
    (node_state c.in-Started.node) (node_state c.receive.new.self) (ap slot_at c.in-Started.is) (search rules)
    c.receive.ensures.runs.now)
