use Rattle.std.proofs.Common.{take}
use Rattle.std.specs.List.{filter}
use Rattle.key_tables.specs.Build.{Adds}
use Rattle.key_tables.specs.Seen.{is_left}
use Rattle.key_tables.proofs.row_list.RowList.add_kept.Given as goal

abbrev pub invariant-rows : goal.invariant-rows
invariant-rows l = Adds l.initial.self l.self (filter (is_left l.said) (take l.row-index l.rows))
