use Rattle.std.proofs.Common.{List, subst, sym}
use Rattle.script_text.specs.declared.event.Event.{Event}
use Rattle.install_run.specs.Turn.{NodeAt}
use Rattle.install_run.specs.Machine.{turn_of}
use Rattle.install_run.specs.Taking.{IsTurnedOnAir}
use Rattle.install_run.proofs.turn.turn_air.Goals as goal

pub returns-in-Inject-clause-turned : goal.returns-in-Inject-clause-turned
returns-in-Inject-clause-turned c = λ (nodes : List NodeAt).
    subst (λ (e : Event). IsTurnedOnAir (turn_of e (record { nodes = nodes; air = c.args.air.now.items })) nodes
    c.inject.result c.inject.new.air.items)
    (sym c.in-Inject.is) (c.inject.ensures.turned nodes)
