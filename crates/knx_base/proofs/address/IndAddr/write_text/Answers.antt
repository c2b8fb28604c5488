use Rattle.std.proofs.Common.{arith}
use Rattle.knx_base.proofs.AddressLemmas.{individual_of-individual_text}
use Rattle.knx_base.proofs.address.IndAddr.write_text.Goals as goal

pub returns-clause-reads_back : goal.returns-clause-reads_back
returns-clause-reads_back c = individual_of-individual_text c.args.self.now.0 (omega arith)
