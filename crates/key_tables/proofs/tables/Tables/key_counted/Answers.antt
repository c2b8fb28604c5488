use Rattle.std.proofs.Common.{subst}
use Rattle.key_tables.specs.Index.{AreIndexed}
use Rattle.key_tables.proofs.Looking.{key_answer, key_steps}
use Rattle.key_tables.proofs.tables.Tables.key_counted.Goals as goal

pub returns-clause-key : goal.returns-clause-key
returns-clause-key g c =
    let kept = subst (λ rows. AreIndexed rows c.self.inside.keys c.self.inside.roles c.self.inside.expanded.items)
    c.self.view_is c.self.invariant
    in
    (key_answer c.args.channel _ kept c.key_counted.ensures.key).key

pub returns-clause-steps : goal.returns-clause-steps
returns-clause-steps g c =
    let kept = subst (λ rows. AreIndexed rows c.self.inside.keys c.self.inside.roles c.self.inside.expanded.items)
    c.self.view_is c.self.invariant
    in
    key_steps c.args.self.now _ _ _ kept.keys_are c.key_counted.ensures.steps
