use Rattle.std.proofs.Common.{rules}
use Rattle.knx_base.specs.Address.{IsGroup, group_of}
use Rattle.knx_base.proofs.DecimalLemmas.{answer_found, answer_none}
use Rattle.knx_base.proofs.AddressLemmas.{group_of-is, group_of-text}
use Rattle.knx_base.proofs.address.GroupAddr.read.Goals as goal

pub returns-clause-found : goal.returns-clause-found
returns-clause-found c = answer_found (λ a. a.0) (IsGroup c.args.text.now) (group_of c.args.text.now) c.map.result
    (search rules) (group_of-is c.args.text.now)

pub returns-clause-none : goal.returns-clause-none
returns-clause-none c = answer_none (λ a. a.0) (IsGroup c.args.text.now) (group_of c.args.text.now) c.map.result
    (search rules) (group_of-text c.args.text.now)
