use Rattle.std.proofs.Common.{◌≡◌, ◌^◌, ◌-◌, arith}
use Rattle.std.proofs.lemmas.Grind.{common_steps}
use Rattle.knx_base.specs.Number.{number_at}
use Rattle.seq_store.proofs.store.draw.reservation_for.Goals as goal

pub returns-in-None-clause-ahead : goal.returns-in-None-clause-ahead
unfolding number_at
returns-in-None-clause-ahead c = λ last above.
    let most : c.from_bytes.result ≡ 2 ^ 48 - 1 = c.from_bytes.ensures.value in
    grind (arith, common_steps)

pub returns-in-None-clause-above : goal.returns-in-None-clause-above
unfolding number_at
returns-in-None-clause-above c = omega (arith, c.from_bytes.ensures.value, c.get.ensures.fits)
