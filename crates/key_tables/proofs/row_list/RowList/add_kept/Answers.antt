use Rattle.std.proofs.Common.{rules, sym}
use Rattle.std.specs.List.{filter}
use Rattle.key_tables.specs.Build.{first_fault, IsFault}
use Rattle.key_tables.specs.Seen.{is_left}
use Rattle.key_tables.proofs.Adding.{more_kept, none_kept, stops_keeping}
use Rattle.key_tables.proofs.row_list.RowList.add_kept.Goals.{then-is_left+in_ok-add, else-is_left}
use Rattle.key_tables.proofs.row_list.RowList.add_kept.Goals as goal

pub returns-in_err-add-clause-fault : goal.returns-in_err-add-clause-fault
returns-in_err-add-clause-fault c =
    let kept = is_left c.args.said.now in
    let stopped : IsFault c.in_err-add.field-0.0 (first_fault c.args.self.now (filter kept c.args.rows.now)) =
    stops_keeping kept _ _ _ c.rows.row-index _ _ c.rows-test.true
    (sym c.if-is_left.ensures) c.rows.invariant c.in_err-add.ensures.fault
    in
    search (rules, stopped)

pub rows-preserved : goal.rows-preserved
rows-preserved c = elim c.if-is_left.branch [
  | then-is_left+in_ok-add w ↦
      rw w.self-is (more_kept (is_left c.args.said.now) _ _ _ _ c.rows.row-index _ c.rows-test.true
      (sym w.if-is_left.ensures) c.rows.invariant w.in_ok-add.ensures.added.0
      w.in_ok-add.ensures.added.1)
  | else-is_left w ↦
      rw w.self-is (none_kept (is_left c.args.said.now) _ _ _ c.rows.row-index _ c.rows-test.true
      (sym w.if-is_left.ensures) c.rows.invariant)
]
