use Rattle.std.proofs.Common.{rules}
use Rattle.key_tables.specs.Build.{first_fault, IsFault}
use Rattle.key_tables.proofs.Adding.{more_added, stops_adding}
use Rattle.key_tables.proofs.row_list.RowList.add_all.Goals as goal

pub returns-in_err-add-clause-fault : goal.returns-in_err-add-clause-fault
returns-in_err-add-clause-fault c =
    let stopped : IsFault c.in_err-add.field-0.0 (first_fault c.args.self.now c.args.rows.now) =
    stops_adding _ _ _ c.rows.row-index _ _ c.rows-test.true c.rows.invariant c.in_err-add.ensures.fault
    in
    search (rules, stopped)

pub rows-preserved : goal.rows-preserved
rows-preserved c =
    more_added _ _ _ _ c.rows.row-index _ c.rows-test.true c.rows.invariant c.in_ok-add.ensures.added.0
    c.in_ok-add.ensures.added.1
