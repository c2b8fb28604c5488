use Rattle.std.proofs.Common.{[], ◌∷◌, ◌++◌, replicate, subst, ap}
use Rattle.std.specs.Prelude.{slice_index}
use Rattle.knx_base.specs.Number.{octets_of}
use Rattle.nvm_model.specs.Gate.{open_octet}
use Rattle.nvm_model.specs.Nvm.{Makes, fault_of}
use Rattle.seq_store.proofs.format.write_front.Goals as goal

pub returns-clause-makes : goal.returns-clause-makes
unfolding octets_of
returns-clause-makes g c =
    subst (λ six. Makes (record { at = 0; bytes = open_octet ∷ replicate 8 0 ++ six } ∷ []) (fault_of c.write.result)
    (g.M.Nvm.state c.args.memory.now)
    (g.M.Nvm.state c.write.new.self) (g.M.Nvm.images c.args.memory.now) (g.M.Nvm.images c.write.new.self))
    (ap (λ b. slice_index b 0 ∷ slice_index b 1 ∷ slice_index b 2 ∷ slice_index b 3 ∷ slice_index b 4 ∷ slice_index b 5
    ∷ []) c.to_bytes.ensures.octets)
    c.write.ensures.makes
