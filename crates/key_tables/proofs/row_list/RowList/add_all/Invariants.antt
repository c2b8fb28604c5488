use Rattle.std.proofs.Common.{take}
use Rattle.key_tables.specs.Build.{Adds}
use Rattle.key_tables.proofs.row_list.RowList.add_all.Given as goal

abbrev pub invariant-rows : goal.invariant-rows
invariant-rows l = Adds l.initial.self l.self (take l.row-index l.rows)
