-- The last reserved number and the marks so far are written.
use Rattle.std.proofs.Common.{◌≡◌, ℕ, ◌+◌, ◌*◌, ◌^◌, ◌<◌, None, [], ◌∷◌, ◌++◌, take}
use Rattle.std.specs.Prelude.{slice_index}
use Rattle.nvm_model.specs.Nvm.{Makes}
use Rattle.seq_store.specs.Layout.{head_write, each_writes}
use Rattle.seq_store.proofs.format.write_numbers.Given as goal

abbrev pub invariant-loop-mark : goal.invariant-loop-mark
invariant-loop-mark g l = record {
  place : l.place ≡ 15 + 6 * l.mark-index;
  makes : Makes ((head_write l.fn.reserved ∷ []) ++ each_writes 15 (take l.mark-index l.marks)) None
      (g.M.Nvm.state l.fn.memory) (g.M.Nvm.state l.memory) (g.M.Nvm.images l.fn.memory) (g.M.Nvm.images l.memory);
  each : (k : ℕ) → k < l.mark-index → slice_index l.marks k < 2 ^ 48;
}
