use Rattle.std.proofs.Common.{rules, subst}
use Rattle.key_tables.specs.Seen.{Loses}
use Rattle.key_tables.proofs.KeySets.{one_less}
use Rattle.key_tables.proofs.key_set.KeySet.remove.Goals as goal

pub returns : goal.returns
returns c =
    subst (λ before. Loses c.args.key.now before c.remove.new.self.keys) c.self.view_is
    (one_less c.args.key.now _ _ _ (search rules) c.remove.ensures.updates.0)
