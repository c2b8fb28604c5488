use Rattle.std.proofs.Common.{arith}
use Rattle.knx_base.proofs.AddressLemmas.{group_of-group_text}
use Rattle.knx_base.proofs.address.GroupAddr.write_text.Goals as goal

pub returns-clause-reads_back : goal.returns-clause-reads_back
returns-clause-reads_back c = group_of-group_text c.args.self.now.0 (omega arith)
