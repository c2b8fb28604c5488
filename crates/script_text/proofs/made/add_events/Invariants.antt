use Rattle.std.proofs.Common.{◌≡◌}
use Rattle.script_text.specs.Lists.{IsDrawn}
use Rattle.script_text.proofs.made.add_events.Given as goal

abbrev pub invariant-loop-index : goal.invariant-loop-index
invariant-loop-index l = IsDrawn l.initial.list l.list l.number l.count l.index l.draws.state l.draws.sends
