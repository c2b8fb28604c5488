use Rattle.std.proofs.Common.{rules, subst}
use Rattle.key_tables.specs.Seen.{Gains}
use Rattle.key_tables.proofs.KeySets.{one_more}
use Rattle.key_tables.proofs.key_set.KeySet.insert.Goals as goal

pub returns-clause-gains : goal.returns-clause-gains
returns-clause-gains c =
    subst (λ before. Gains c.args.key before c.insert.new.self.keys) c.self.view_is
    (one_more c.args.key _ _ _ (search rules) c.in_ok-insert.ensures.updates.0)
