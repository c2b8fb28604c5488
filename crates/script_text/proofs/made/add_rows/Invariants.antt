use Rattle.std.proofs.Common.{◌≡◌, take}
use Rattle.script_text.specs.Lists.{HasRows}
use Rattle.script_text.proofs.made.add_rows.Given as goal

abbrev pub invariant-loop-index : goal.invariant-loop-index
invariant-loop-index l = HasRows l.initial.list (take l.index l.rows) l.list
