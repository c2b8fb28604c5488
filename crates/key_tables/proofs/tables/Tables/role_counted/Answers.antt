use Rattle.std.proofs.Common.{subst}
use Rattle.key_tables.specs.Index.{AreIndexed}
use Rattle.key_tables.proofs.Looking.{role_answer, role_steps}
use Rattle.key_tables.proofs.tables.Tables.role_counted.Goals as goal

pub returns-clause-role : goal.returns-clause-role
returns-clause-role g c =
    let kept = subst (λ rows. AreIndexed rows c.self.inside.keys c.self.inside.roles c.self.inside.expanded.items)
    c.self.view_is c.self.invariant
    in
    (role_answer c.args.channel c.args.sender _ kept c.role_counted.ensures.role).role

pub returns-clause-steps : goal.returns-clause-steps
returns-clause-steps g c =
    let kept = subst (λ rows. AreIndexed rows c.self.inside.keys c.self.inside.roles c.self.inside.expanded.items)
    c.self.view_is c.self.invariant
    in
    role_steps c.args.self.now _ _ _ kept.roles_are c.role_counted.ensures.steps
