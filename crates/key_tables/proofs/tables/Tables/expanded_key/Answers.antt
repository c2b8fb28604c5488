use Rattle.std.proofs.Common.{rules, subst}
use Rattle.key_tables.specs.Index.{AreIndexed}
use Rattle.key_tables.proofs.Looking.{key_says, expanded_says}
use Rattle.key_tables.proofs.tables.Tables.expanded_key.Goals as goal

pub returns-in_err-place : goal.returns-in_err-place
returns-in_err-place c =
    let kept = subst (λ rows. AreIndexed rows c.self.inside.keys c.self.inside.roles c.self.inside.expanded.items)
    c.self.view_is c.self.invariant
    in
    let none = key_says c.args.self.now c.self.inside.keys c.args.channel kept.keys_are in
    record { key = search (rules, none) }

pub returns : goal.returns
returns c =
    let kept = subst (λ rows. AreIndexed rows c.self.inside.keys c.self.inside.roles c.self.inside.expanded.items)
    c.self.view_is c.self.invariant
    in
    let says = expanded_says c.args.self.now c.self.inside.keys c.self.inside.expanded.items c.args.channel
    c.in_ok-place.place kept.keys_are kept.expanded_are
    c.in_ok-place.ensures
    in
    record { key = search (rules, says) }
