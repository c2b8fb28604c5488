use Rattle.std.proofs.Common.{subst, sym}
use Rattle.script_text.specs.declared.event.Event.{Event}
use Rattle.install_run.specs.Slot.{slot_at}
use Rattle.install_run.specs.Taking.{IsTakenBy}
use Rattle.std.proofs.Common.{[]}
use Rattle.install_run.specs.Holding.{heard_raises, raises_of, RestoresRaised}
use Rattle.install_run.specs.Slot.{IsTaken}
use Rattle.install_run.specs.Turn.{on_turn}
use Rattle.nvm_model.specs.SimNvm.{with_cut, with_fault}
use Rattle.install_run.proofs.Sounding.{if_ok, held_by, set_raised, off_raised, on_raised, arm_raised}
use Rattle.install_run.proofs.Turning.{send_in, tool_in, ask_in, receive_in}
use Rattle.install_run.proofs.slot.Slot.take.Goals as goal

pub returns-in-Send-clause-taken : goal.returns-in-Send-clause-taken
returns-in-Send-clause-taken c =
    subst (λ (e : Event). IsTakenBy e c.args.air.now (slot_at c.args.self.now) c.send.result (slot_at c.send.new.self)
    c.send.new.out) (sym c.in-Send.is)
    (send_in c.args.air.now c.in-Send.node c.in-Send.object c.in-Send.service (slot_at c.args.self.now)
    (slot_at c.send.new.self)
    c.send.result c.send.new.out c.send.ensures.taken)

pub returns-in-ToolSend-clause-taken : goal.returns-in-ToolSend-clause-taken
returns-in-ToolSend-clause-taken c =
    subst (λ (e : Event). IsTakenBy e c.args.air.now (slot_at c.args.self.now) c.send_tool.result
    (slot_at c.send_tool.new.self) c.send_tool.new.out)
    (sym c.in-ToolSend.is)
    (tool_in c.args.air.now c.in-ToolSend.node c.in-ToolSend.to c.in-ToolSend.apdu (slot_at c.args.self.now)
    (slot_at c.send_tool.new.self)
    c.send_tool.result c.send_tool.new.out (rw (← c.bytes.ensures.octets) c.send_tool.ensures.taken))

pub returns-in-Ask-clause-taken : goal.returns-in-Ask-clause-taken
returns-in-Ask-clause-taken c =
    subst (λ (e : Event). IsTakenBy e c.args.air.now (slot_at c.args.self.now) c.ask.result (slot_at c.ask.new.self)
    c.ask.new.out) (sym c.in-Ask.is)
    (ask_in c.args.air.now c.in-Ask.node c.in-Ask.to c.in-Ask.challenge (slot_at c.args.self.now)
    (slot_at c.ask.new.self)
    c.ask.result c.ask.new.out c.ask.ensures.taken)

pub returns-in-Deliver-clause-taken : goal.returns-in-Deliver-clause-taken
returns-in-Deliver-clause-taken c =
    subst (λ (e : Event). IsTakenBy e c.args.air.now (slot_at c.args.self.now) c.receive.result
    (slot_at c.receive.new.self) c.receive.new.out)
    (sym c.in-Deliver.is)
    (receive_in c.args.air.now c.in-Deliver.telegram c.in-Deliver.node (slot_at c.args.self.now)
    (slot_at c.receive.new.self)
    c.receive.result c.receive.new.out (rw (← c.heard.ensures.octets) c.receive.ensures.taken))

pub returns-in-Set-clause-held : goal.returns-in-Set-clause-held
returns-in-Set-clause-held c =
    held_by c.set.new.self c.args.event.now c.args.air.now (slot_at c.args.self.now)
    (c.set.ensures.sound c.requires.sound)
    (subst (λ (e : Event). RestoresRaised (raises_of e c.args.air.now) (slot_at c.args.self.now)
    (slot_at c.set.new.self)) (sym c.in-Set.is)
    (set_raised c.args.self.now c.in-Set.object c.in-Set.value (slot_at c.set.new.self) c.set.ensures.taken.node_is))

pub returns-in-Send-clause-held : goal.returns-in-Send-clause-held
returns-in-Send-clause-held c =
    held_by c.send.new.self c.args.event.now c.args.air.now (slot_at c.args.self.now)
    (c.send.ensures.sound c.requires.sound)
    (subst (λ (e : Event). RestoresRaised (raises_of e c.args.air.now) (slot_at c.args.self.now)
    (slot_at c.send.new.self)) (sym c.in-Send.is)
    (c.send.ensures.raised))

pub returns-in-ToolSend-clause-held : goal.returns-in-ToolSend-clause-held
returns-in-ToolSend-clause-held c =
    held_by c.send_tool.new.self c.args.event.now c.args.air.now (slot_at c.args.self.now)
    (c.send_tool.ensures.sound c.requires.sound)
    (subst (λ (e : Event). RestoresRaised (raises_of e c.args.air.now) (slot_at c.args.self.now)
    (slot_at c.send_tool.new.self)) (sym c.in-ToolSend.is)
    (rw (← c.bytes.ensures.octets) c.send_tool.ensures.raised))

pub returns-in-Ask-clause-held : goal.returns-in-Ask-clause-held
returns-in-Ask-clause-held c =
    held_by c.ask.new.self c.args.event.now c.args.air.now (slot_at c.args.self.now)
    (c.ask.ensures.sound c.requires.sound)
    (subst (λ (e : Event). RestoresRaised (raises_of e c.args.air.now) (slot_at c.args.self.now)
    (slot_at c.ask.new.self)) (sym c.in-Ask.is)
    (c.ask.ensures.raised))

pub returns-in-Deliver-clause-held : goal.returns-in-Deliver-clause-held
returns-in-Deliver-clause-held c =
    held_by c.receive.new.self c.args.event.now c.args.air.now (slot_at c.args.self.now)
    (c.receive.ensures.sound c.requires.sound)
    (subst (λ (e : Event). RestoresRaised (raises_of e c.args.air.now) (slot_at c.args.self.now)
    (slot_at c.receive.new.self)) (sym c.in-Deliver.is)
    (subst (λ h. RestoresRaised (λ config s. heard_raises config s h) (slot_at c.args.self.now)
    (slot_at c.receive.new.self)) c.heard.ensures.octets c.receive.ensures.raised))

pub returns-in-Off-clause-held : goal.returns-in-Off-clause-held
returns-in-Off-clause-held c =
    held_by c.switch_off.new.self c.args.event.now c.args.air.now (slot_at c.args.self.now)
    (c.switch_off.ensures.sound c.requires.sound)
    (subst (λ (e : Event). RestoresRaised (raises_of e c.args.air.now) (slot_at c.args.self.now)
    (slot_at c.switch_off.new.self)) (sym c.in-Off.is)
    (off_raised c.args.self.now (slot_at c.switch_off.new.self) c.switch_off.ensures.taken.node_is))

pub returns-in-On-clause-held : goal.returns-in-On-clause-held
returns-in-On-clause-held c =
    if_ok c.switch_on.result (λ outcome (taken : IsTaken (on_turn (slot_at c.args.self.now)
    (slot_at c.args.self.now).standing) outcome (slot_at c.switch_on.new.self) []).
    held_by c.switch_on.new.self c.args.event.now c.args.air.now (slot_at c.args.self.now) c.switch_on.ensures.sound
    (subst (λ (e : Event). RestoresRaised (raises_of e c.args.air.now) (slot_at c.args.self.now)
    (slot_at c.switch_on.new.self)) (sym c.in-On.is)
    (on_raised c.args.self.now (slot_at c.switch_on.new.self) taken.node_is))) c.switch_on.ensures.taken

pub returns-in-Cut-clause-held : goal.returns-in-Cut-clause-held
returns-in-Cut-clause-held c =
    held_by c.arm_cut.new.self c.args.event.now c.args.air.now (slot_at c.args.self.now)
    (c.arm_cut.ensures.sound)
    (subst (λ (e : Event). RestoresRaised (raises_of e c.args.air.now) (slot_at c.args.self.now)
    (slot_at c.arm_cut.new.self)) (sym c.in-Cut.is)
    (arm_raised c.args.self.now (with_cut c.in-Cut.write c.in-Cut.torn) (slot_at c.arm_cut.new.self)
    c.arm_cut.ensures.taken.node_is))

pub returns-in-Fault-clause-held : goal.returns-in-Fault-clause-held
returns-in-Fault-clause-held c =
    held_by c.arm_fail.new.self c.args.event.now c.args.air.now (slot_at c.args.self.now)
    (c.arm_fail.ensures.sound)
    (subst (λ (e : Event). RestoresRaised (raises_of e c.args.air.now) (slot_at c.args.self.now)
    (slot_at c.arm_fail.new.self)) (sym c.in-Fault.is)
    (arm_raised c.args.self.now (with_fault c.in-Fault.write c.in-Fault.torn) (slot_at c.arm_fail.new.self)
    c.arm_fail.ensures.taken.node_is))
