use Rattle.knx_base.specs.Number.{number_at}
use Rattle.secure_apdu.proofs.sync.sync_values.Goals as goal

pub returns-clause-values : goal.returns-clause-values
unfolding number_at
returns-clause-values c = λ i. (c.from_bytes.ensures.value i, c.from_bytes-2.ensures.value i)
