use Rattle.std.proofs.Common.{arith}
use Rattle.seq_store.proofs.Steps.{generation_read}
use Rattle.seq_store.proofs.bank.generation_at.Goals as goal

pub returns : goal.returns
returns c = generation_read c.args.octets.now c.args.at c.from_be_bytes.result (omega (arith, c.from_be_bytes.ensures))
