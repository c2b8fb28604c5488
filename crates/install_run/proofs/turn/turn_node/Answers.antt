use Rattle.std.proofs.Common.{List, length, get_or, subst}
use Rattle.install_run.specs.Machine.{TelegramAt}
use Rattle.install_run.specs.Taking.{IsTakenBy}
use Rattle.install_run.specs.Holding.{IsHeld}
use Rattle.install_run.proofs.Stepping.{event_in_range, at_place}
use Rattle.install_run.proofs.turn.turn_node.Goals as goal

pub returns-clause-turned : goal.returns-clause-turned
returns-clause-turned c =
    let in_range =
    event_in_range (length c.args.places.now) c.args.event.now c.args.place c.requires.event c.requires.at_node in
    at_place c.args.event.now c.args.places.now c.args.air.now.items c.put.new.air.items c.args.place
    c.in_ok-outcome.outcome
    c.index-places-place.result c.take.new.self c.take.new.out in_range c.requires.at_node
    (subst (λ (air : List TelegramAt). IsTakenBy c.args.event.now air
    (get_or c.args.places.now c.args.place c.index-places-place.result).node c.in_ok-outcome.outcome
    c.take.new.self.node c.take.new.out)
    c.deref.ensures.value c.in_ok-outcome.ensures.taken)
    c.in_ok-outcome.ensures.cause
    (subst (λ (air : List TelegramAt). IsHeld c.args.event.now air
    (get_or c.args.places.now c.args.place c.index-places-place.result).node c.take.new.self.node)
    c.deref.ensures.value c.in_ok-outcome.ensures.held)
    c.in_ok-outcome.ensures.journal c.put.ensures.sent
