use Rattle.std.proofs.Common.{[], ◌∷◌, subst}
use Rattle.nvm_model.specs.Nvm.{Makes, fault_of}
use Rattle.seq_store.specs.Layout.{each_writes}
use Rattle.seq_store.proofs.format.write_number.Goals as goal

pub returns-clause-makes : goal.returns-clause-makes
unfolding each_writes
returns-clause-makes g c =
    subst (λ bytes. Makes (record { at = c.args.place; bytes = bytes } ∷ []) (fault_of c.write.result)
    (g.M.Nvm.state c.args.memory.now)
    (g.M.Nvm.state c.write.new.self) (g.M.Nvm.images c.args.memory.now) (g.M.Nvm.images c.write.new.self))
    c.to_bytes.ensures.octets c.write.ensures.makes
