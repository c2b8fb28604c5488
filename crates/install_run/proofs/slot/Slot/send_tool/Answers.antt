use Rattle.std.proofs.Common.{rules, ap}
use Rattle.install_run.specs.Slot.{slot_at}
use Rattle.node_core.specs.Sending.{tool_transition}
use Rattle.node_core.specs.Node.{node_state}
use Rattle.install_run.proofs.Sounding.{sound_call, raised_call}
use Rattle.install_run.proofs.slot.Slot.send_tool.Goals as goal

pub returns-in-Started-clause-sound : goal.returns-in-Started-clause-sound
returns-in-Started-clause-sound c = λ _. sound_call _ (node_state c.in-Started.node) (node_state c.send_tool.new.self)
    c.in-Started.node.lanes c.send_tool.ensures.does.config c.send_tool.ensures.runs.now

pub returns-in-Started-clause-raised : goal.returns-in-Started-clause-raised
returns-in-Started-clause-raised c =
    raised_call (λ config s. (tool_transition config s c.args.to c.args.apdu.now).raises) c.args.self.now
    (node_state c.in-Started.node) (node_state c.send_tool.new.self) (ap slot_at c.in-Started.is) (search rules)
    c.send_tool.ensures.runs.now
