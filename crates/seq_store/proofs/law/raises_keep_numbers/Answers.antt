use Rattle.seq_store.proofs.Keeping.{keeps}
use Rattle.seq_store.proofs.law.raises_keep_numbers.Goals as goal

pub returns-clause-keeps : goal.returns-clause-keeps
returns-clause-keeps c = keeps
