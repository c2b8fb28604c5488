use Rattle.std.proofs.Common.{rules}
use Rattle.key_tables.proofs.Standing.{merged_never_twice}
use Rattle.key_tables.proofs.Merging.{look_ups_merge}
use Rattle.key_tables.proofs.tables.Tables.merge.Goals as goal

pub returns-in_err-list-clause-never_twice : goal.returns-in_err-list-clause-never_twice
returns-in_err-list-clause-never_twice c = λ once_over once_under.
    let never = merged_never_twice _ _ _ c.in_err-list.ensures.fault once_over once_under in
    search (rules, never)

pub returns-in_err-list-clause-look_ups : goal.returns-in_err-list-clause-look_ups
returns-in_err-list-clause-look_ups c = look_ups_merge c.args.over.now c.args.under.now

pub returns-clause-look_ups : goal.returns-clause-look_ups
returns-clause-look_ups c = look_ups_merge c.args.over.now c.args.under.now

pub returns-in_err-from_rows-clause-look_ups : goal.returns-in_err-from_rows-clause-look_ups
returns-in_err-from_rows-clause-look_ups c = look_ups_merge c.args.over.now c.args.under.now
