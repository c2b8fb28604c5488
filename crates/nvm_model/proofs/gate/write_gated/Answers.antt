use Rattle.std.proofs.Common.{true, false, sym, ◌∙◌}
use Rattle.nvm_model.proofs.GateLemmas.{makes_gated, opens_gated}
use Rattle.nvm_model.proofs.gate.write_gated.Goals as goal

pub returns-then-was_open-clause-any_moment : goal.returns-then-was_open-clause-any_moment
returns-then-was_open-clause-any_moment g c =
    makes_gated c.args.gate true c.args.body.now (sym c.if-was_open.true ∙ c.requires.tells_the_gate) c.requires.inside
    c.write_in_turn.ensures.makes

pub returns-then-was_open-clause-opened : goal.returns-then-was_open-clause-opened
returns-then-was_open-clause-opened g c =
    opens_gated c.write_in_turn.result c.args.gate true c.args.body.now c.requires.inside c.write_in_turn.ensures.makes

pub returns-else-was_open-clause-any_moment : goal.returns-else-was_open-clause-any_moment
returns-else-was_open-clause-any_moment g c =
    makes_gated c.args.gate false c.args.body.now (sym c.if-was_open.false ∙ c.requires.tells_the_gate)
    c.requires.inside c.write_in_turn-else-was_open.ensures.makes

pub returns-else-was_open-clause-opened : goal.returns-else-was_open-clause-opened
returns-else-was_open-clause-opened g c =
    opens_gated c.write_in_turn-else-was_open.result c.args.gate false c.args.body.now c.requires.inside
    c.write_in_turn-else-was_open.ensures.makes
