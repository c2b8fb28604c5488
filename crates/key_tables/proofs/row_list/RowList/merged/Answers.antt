use Rattle.std.proofs.Common.{rules, [], subst}
use Rattle.std.specs.List.{filter}
use Rattle.key_tables.specs.Build.{build_fault, first_fault, is_kept, merged, Adds, IsFault}
use Rattle.key_tables.proofs.Adding.{merge_added, stops_above, stops_below}
use Rattle.key_tables.proofs.KeySets.{left_is}
use Rattle.key_tables.proofs.row_list.RowList.merged.Goals as goal

pub returns-in_err-add_all-clause-fault : goal.returns-in_err-add_all-clause-fault
returns-in_err-add_all-clause-fault c =
    let stopped : IsFault c.in_err-add_all.field-0.0 (build_fault (merged c.args.over.now c.args.under.now)) =
    stops_above _ _ _ (search rules)
    in
    search (rules, stopped)

pub returns-in_err-add_kept-clause-fault : goal.returns-in_err-add_kept-clause-fault
returns-in_err-add_kept-clause-fault c =
    let above : Adds [] c.add_all.new.self c.args.over.now = search rules in
    let stopped : IsFault c.in_err-add_kept.field-0.0 (build_fault (merged c.args.over.now c.args.under.now)) =
    stops_below _ _ _ _ above
    (subst (λ kept. IsFault c.in_err-add_kept.field-0.0 (first_fault c.add_all.new.self
    (filter kept c.args.under.now))) (left_is c.args.over.now c.in_ok-said.said c.in_ok-said.ensures)
    c.in_err-add_kept.ensures.fault)
    in
    search (rules, stopped)

pub returns-clause-rows : goal.returns-clause-rows
unfolding merged
returns-clause-rows c =
    let above : Adds [] c.add_all.new.self c.args.over.now = search rules in
    let below : Adds c.add_all.new.self c.add_kept.new.self (filter (is_kept c.args.over.now) c.args.under.now) =
    subst (λ kept. Adds c.add_all.new.self c.add_kept.new.self (filter kept c.args.under.now))
    (left_is c.args.over.now c.in_ok-said.said c.in_ok-said.ensures) c.in_ok-add_kept.ensures.added
    in
    search (rules, above.are, below.are)

pub returns-clause-stand : goal.returns-clause-stand
returns-clause-stand c = λ _.
    let above : Adds [] c.add_all.new.self c.args.over.now = search rules in
    merge_added _ _ _ _ above
    (subst (λ kept. Adds c.add_all.new.self c.add_kept.new.self (filter kept c.args.under.now))
    (left_is c.args.over.now c.in_ok-said.said c.in_ok-said.ensures) c.in_ok-add_kept.ensures.added)
