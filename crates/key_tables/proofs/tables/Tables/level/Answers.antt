use Rattle.std.proofs.Common.{subst}
use Rattle.key_tables.specs.Index.{AreIndexed}
use Rattle.key_tables.proofs.Looking.{level_answer}
use Rattle.key_tables.proofs.tables.Tables.level.Goals as goal

pub returns-clause-level : goal.returns-clause-level
returns-clause-level c =
    let kept = subst (λ rows. AreIndexed rows c.self.inside.keys c.self.inside.roles c.self.inside.expanded.items)
    c.self.view_is c.self.invariant
    in
    (level_answer c.args.channel _ kept c.level_in.ensures).level

pub returns-clause-there : goal.returns-clause-there
returns-clause-there c =
    let kept = subst (λ rows. AreIndexed rows c.self.inside.keys c.self.inside.roles c.self.inside.expanded.items)
    c.self.view_is c.self.invariant
    in
    (level_answer c.args.channel _ kept c.level_in.ensures).there

pub returns-clause-each : goal.returns-clause-each
returns-clause-each c =
    let kept = subst (λ rows. AreIndexed rows c.self.inside.keys c.self.inside.roles c.self.inside.expanded.items)
    c.self.view_is c.self.invariant
    in
    (level_answer c.args.channel _ kept c.level_in.ensures).each
