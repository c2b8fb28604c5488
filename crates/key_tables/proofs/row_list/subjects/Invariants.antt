use Rattle.std.proofs.Common.{take}
use Rattle.key_tables.specs.Index.{subject_of}
use Rattle.key_tables.specs.Seen.{HasThose}
use Rattle.key_tables.proofs.row_list.subjects.Given as goal

abbrev pub invariant-rows : goal.invariant-rows
invariant-rows l = HasThose subject_of (take l.row-index l.rows) l.said
