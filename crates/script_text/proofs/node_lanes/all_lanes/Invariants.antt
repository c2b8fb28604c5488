use Rattle.std.proofs.Common.{◌≡◌}
use Rattle.script_text.specs.Lists.{IsSettledUpTo}
use Rattle.script_text.proofs.node_lanes.all_lanes.Given as goal

abbrev pub invariant-loop-index : goal.invariant-loop-index
invariant-loop-index l = IsSettledUpTo l.lists l.index l.all.items
