use Rattle.std.proofs.Common.{subst}
use Rattle.key_tables.specs.Index.{AreIndexed}
use Rattle.key_tables.proofs.Looking.{key_answer}
use Rattle.key_tables.proofs.tables.Tables.key.Goals as goal

pub returns-clause-key : goal.returns-clause-key
returns-clause-key c =
    let kept = subst (λ rows. AreIndexed rows c.self.inside.keys c.self.inside.roles c.self.inside.expanded.items)
    c.self.view_is c.self.invariant
    in
    (key_answer c.args.channel _ kept c.key_in.ensures).key

pub returns-clause-there : goal.returns-clause-there
returns-clause-there c =
    let kept = subst (λ rows. AreIndexed rows c.self.inside.keys c.self.inside.roles c.self.inside.expanded.items)
    c.self.view_is c.self.invariant
    in
    (key_answer c.args.channel _ kept c.key_in.ensures).there

pub returns-clause-each : goal.returns-clause-each
returns-clause-each c =
    let kept = subst (λ rows. AreIndexed rows c.self.inside.keys c.self.inside.roles c.self.inside.expanded.items)
    c.self.view_is c.self.invariant
    in
    (key_answer c.args.channel _ kept c.key_in.ensures).each
