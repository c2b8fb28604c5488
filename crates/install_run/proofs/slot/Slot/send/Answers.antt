use Rattle.std.proofs.Common.{rules, ap}
use Rattle.install_run.specs.Slot.{slot_at}
use Rattle.node_core.specs.Sending.{send_transition}
use Rattle.node_core.specs.Node.{node_state}
use Rattle.install_run.proofs.Sounding.{sound_call, raised_call}
use Rattle.install_run.proofs.slot.Slot.send.Goals as goal

pub returns-in-Started-clause-sound : goal.returns-in-Started-clause-sound
returns-in-Started-clause-sound c = λ _. sound_call _ (node_state c.in-Started.node) (node_state c.send.new.self)
    c.in-Started.node.lanes c.send.ensures.does.config c.send.ensures.runs.now

pub returns-in-Started-clause-raised : goal.returns-in-Started-clause-raised
returns-in-Started-clause-raised c =
    raised_call (λ config s. (send_transition config s c.args.object c.args.service).raises) c.args.self.now
    (node_state c.in-Started.node) (node_state c.send.new.self) (ap slot_at c.in-Started.is) (search rules)
    c.send.ensures.runs.now
