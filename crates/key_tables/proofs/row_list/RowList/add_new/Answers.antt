use Rattle.std.proofs.Common.{rules, subst}
use Rattle.key_tables.specs.Build.{row_fault}
use Rattle.key_tables.specs.Index.{row_key_of}
use Rattle.key_tables.proofs.Adding.{one_more_key, one_more_role}
use Rattle.key_tables.specs.Seen.{IsKept}
use Rattle.key_tables.proofs.KeySets.{may_stand, more_held}
use Rattle.key_tables.proofs.row_list.RowList.add_new.Goals as goal

pub invariant_of-self-in-Role : goal.invariant_of-self-in-Role
unfolding row_fault
invariant_of-self-in-Role c = record {
  counted = one_more_role c.self.inside.rows.items _ c.args.row _ _ (search rules) (search rules) (search rules)
      (search rules) c.self.invariant.counted;
  seen_are = more_held row_key_of c.self.inside.rows.items _ c.args.row _ _ (search rules) c.self.invariant.seen_are
      (search rules);
}

pub invariant_of-self-in-Group : goal.invariant_of-self-in-Group
unfolding row_fault
invariant_of-self-in-Group c = record {
  counted = one_more_key c.self.inside.rows.items _ c.args.row _ _ (search rules) (search rules) (search rules)
      (search rules) c.self.invariant.counted;
  seen_are = more_held row_key_of c.self.inside.rows.items _ c.args.row _ _ (search rules) c.self.invariant.seen_are
      (search rules);
}

pub returns-in_err-insert-clause-memory : goal.returns-in_err-insert-clause-memory
returns-in_err-insert-clause-memory c =
    let kept = subst (λ rows. IsKept rows c.self.inside.seen c.self.inside.keys c.self.inside.roles) c.self.view_is
    c.self.invariant
    in
    let stands = may_stand c.args.self.now c.self.inside.seen c.args.row kept.seen_are (search rules) c.requires in
    search (rules, stands)
