use Rattle.std.proofs.Common.{subst}
use Rattle.key_tables.specs.Index.{AreIndexed}
use Rattle.key_tables.proofs.Looking.{role_answer}
use Rattle.key_tables.proofs.tables.Tables.role.Goals as goal

pub returns-clause-role : goal.returns-clause-role
returns-clause-role c =
    let kept = subst (λ rows. AreIndexed rows c.self.inside.keys c.self.inside.roles c.self.inside.expanded.items)
    c.self.view_is c.self.invariant
    in
    (role_answer c.args.channel c.args.sender _ kept c.role_in.ensures).role

pub returns-clause-there : goal.returns-clause-there
returns-clause-there c =
    let kept = subst (λ rows. AreIndexed rows c.self.inside.keys c.self.inside.roles c.self.inside.expanded.items)
    c.self.view_is c.self.invariant
    in
    (role_answer c.args.channel c.args.sender _ kept c.role_in.ensures).there

pub returns-clause-own : goal.returns-clause-own
returns-clause-own c =
    let kept = subst (λ rows. AreIndexed rows c.self.inside.keys c.self.inside.roles c.self.inside.expanded.items)
    c.self.view_is c.self.invariant
    in
    (role_answer c.args.channel c.args.sender _ kept c.role_in.ensures).own

pub returns-clause-any : goal.returns-clause-any
returns-clause-any c =
    let kept = subst (λ rows. AreIndexed rows c.self.inside.keys c.self.inside.roles c.self.inside.expanded.items)
    c.self.view_is c.self.invariant
    in
    (role_answer c.args.channel c.args.sender _ kept c.role_in.ensures).any

pub returns-clause-device : goal.returns-clause-device
returns-clause-device c =
    let kept = subst (λ rows. AreIndexed rows c.self.inside.keys c.self.inside.roles c.self.inside.expanded.items)
    c.self.view_is c.self.invariant
    in
    (role_answer c.args.channel c.args.sender _ kept c.role_in.ensures).device
