use Rattle.seq_store.proofs.Steps.{six_copied}
use Rattle.seq_store.proofs.bank.six_at.Goals as goal

pub returns : goal.returns
returns c = six_copied c.args.octets.now c.copy_from_slice.new.self c.args.at c.from_bytes.result c.requires.inside
    c.copy_from_slice.ensures.after
    c.from_bytes.ensures.value c.from_bytes.ensures.back
