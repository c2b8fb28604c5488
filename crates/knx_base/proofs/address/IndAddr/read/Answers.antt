use Rattle.std.proofs.Common.{rules}
use Rattle.knx_base.specs.Address.{IsIndividual, individual_of}
use Rattle.knx_base.proofs.DecimalLemmas.{answer_found, answer_none}
use Rattle.knx_base.proofs.AddressLemmas.{individual_of-is, individual_of-text}
use Rattle.knx_base.proofs.address.IndAddr.read.Goals as goal

pub returns-clause-found : goal.returns-clause-found
returns-clause-found c = answer_found (λ a. a.0) (IsIndividual c.args.text.now) (individual_of c.args.text.now)
    c.map.result (search rules) (individual_of-is c.args.text.now)

pub returns-clause-none : goal.returns-clause-none
returns-clause-none c = answer_none (λ a. a.0) (IsIndividual c.args.text.now) (individual_of c.args.text.now)
    c.map.result (search rules) (individual_of-text c.args.text.now)
