-- the last reserved number and the marks so far are those of the memory, and nothing but reads was done
use Rattle.std.proofs.Common.{◌≡◌, ℕ, ◌+◌, ◌<◌, None, Some}
use Rattle.std.specs.Prelude.{slice_index}
use Rattle.nvm_model.specs.Nvm.{Reads}
use Rattle.seq_store.specs.Layout.{value_of}
use Rattle.seq_store.proofs.store.start.read_values.Given as goal

abbrev pub invariant-loop-lane : goal.invariant-loop-lane
invariant-loop-lane g l = record {
  reads : Reads None (g.M.Nvm.state l.fn.memory) (g.M.Nvm.state l.memory) (g.M.Nvm.images l.fn.memory)
      (g.M.Nvm.images l.memory);
  reserved : value_of l.lanes (g.M.Nvm.state l.fn.memory).octets 0 ≡ Some l.reserved;
  each : (k : ℕ) → k < l.lane → value_of l.lanes (g.M.Nvm.state l.fn.memory).octets (1 + k)
      ≡ Some (slice_index l.marks k);
}
