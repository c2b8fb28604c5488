use Rattle.std.proofs.Common.{◌≡◌, map, take}
use Rattle.script_text.specs.Text.{node_row}
use Rattle.script_text.proofs.reading.node_rows.Given as goal

abbrev pub invariant-loop-index : goal.invariant-loop-index
invariant-loop-index l = l.rows.items ≡ map (node_row l.lists) (take l.index l.lists.nodes)
