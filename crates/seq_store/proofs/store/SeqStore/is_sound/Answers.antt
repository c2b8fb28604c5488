use Rattle.seq_store.proofs.Starts.{restores_ready}
use Rattle.seq_store.proofs.store.SeqStore.is_sound.Goals as goal

pub returns-clause-ready : goal.returns-clause-ready
returns-clause-ready g c = λ sound. restores_ready _ c.args.self.now.reserved c.args.self.now.marks.items
    (c.args.self.now.agrees sound).restores
