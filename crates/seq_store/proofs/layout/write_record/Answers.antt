use Rattle.std.proofs.Common.{◌≡◌, ◌%◌, List, ℕ, [], ◌∷◌, subst, ap, ◌∙◌, arith}
use Rattle.std.specs.Prelude.{slice_index}
use Rattle.knx_base.specs.Number.{octets_of}
use Rattle.nvm_model.specs.Gate.{opening_writes}
use Rattle.nvm_model.specs.Nvm.{Makes, fault_of}
use Rattle.seq_store.proofs.layout.write_record.Goals as goal

pub returns : goal.returns
unfolding octets_of
returns g c =
    let index : c.args.value ≡ c.args.value % 256 = omega (arith, c.requires.index_fits) in
    record {
      makes = subst (λ body. Makes (opening_writes c.args.place body) (fault_of c.write_gated.result)
          (g.M.Nvm.state c.args.memory.now)
          (g.M.Nvm.state c.write_gated.new.memory) (g.M.Nvm.images c.args.memory.now)
          (g.M.Nvm.images c.write_gated.new.memory))
          (ap (λ b. c.args.value ∷ slice_index b 0 ∷ slice_index b 1 ∷ slice_index b 2 ∷ slice_index b 3
          ∷ slice_index b 4 ∷ slice_index b 5 ∷ []) c.to_bytes.ensures.octets
          ∙ ap (λ v. v ∷ octets_of c.args.number) index)
          c.write_gated.ensures.makes;
    }
