use Rattle.std.proofs.Common.{◌≡◌, ◌++◌, length, take, drop, arith}
use Rattle.std.proofs.lemmas.Grind.{common_steps}
use Rattle.install_run.proofs.Stepping.{step_is}
use Rattle.install_run.proofs.Originating.{of_places, run_is}
use Rattle.install_run.proofs.world.World.step.Goals as goal

pub returns-clause-stepped : goal.returns-clause-stepped
returns-clause-stepped c =
    let size = c.in_ok-outcome.ensures.turned.size in
    let back : take c.self.inside.places.len (c.turn.new.places
    ++ drop (length c.turn.new.places) c.self.inside.places.items) ≡ c.turn.new.places =
    grind (arith, common_steps, size) in
    step_is c.self.inside.rows.items c.self.inside.nodes.items c.args.event.now c.self.inside.places.items
    c.deref_mut.result.now c.turn.new.places _
    c.self.inside.air.items c.reserve.new.self.items c.turn.new.air.items c.self.inside.steps.items
    c.reserve-2.new.self.items c.note.new.steps.items
    c.in_ok-outcome.outcome c.args.self.now c.self.view_is c.deref_mut.ensures.value c.reserve.ensures.items
    c.reserve-2.ensures.items
    c.in_ok-outcome.ensures.turned back c.note.ensures.noted

pub invariant_of-self-2 : goal.invariant_of-self-2
invariant_of-self-2 c =
    let size = c.in_ok-outcome.ensures.turned.size in
    let back : take c.self.inside.places.len (c.turn.new.places
    ++ drop (length c.turn.new.places) c.self.inside.places.items) ≡ c.turn.new.places =
    grind (arith, common_steps, size) in
    run_is c.self.inside.rows.items c.self.inside.nodes.items c.args.event.now c.self.inside.places.items
    c.deref_mut.result.now c.turn.new.places _
    c.self.inside.air.items c.reserve.new.self.items c.turn.new.air.items c.self.inside.steps.items
    c.reserve-2.new.self.items c.note.new.steps.items
    c.in_ok-outcome.outcome c.self.invariant
    (of_places c.self.inside.rows.items c.self.inside.nodes.items c.self.inside.places.items c.self.inside.air.items
    c.self.inside.steps.items c.args.self.now c.args.event.now c.self.view_is c.requires.event)
    c.deref_mut.ensures.value c.reserve.ensures.items c.reserve-2.ensures.items c.in_ok-outcome.ensures.turned back
    c.note.ensures.noted
