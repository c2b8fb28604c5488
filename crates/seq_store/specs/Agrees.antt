-- Statement: a store beside its memory.
use Rattle.std.specs.Prelude.{◌≡◌, ℕ, ◌^◌, ◌<◌, true, List}
use Rattle.nvm_model.specs.Nvm.{State}
use Rattle.seq_store.specs.Laws.{Restores}

-- The memory has power on, and restores these marks and this last reserved number of 48 bits.
pub record Agrees (state : State) (marks : List ℕ) (last : ℕ) : Type 0 where
  pub powered : state.powered ≡ true
  pub fits : last < 2 ^ 48
  pub restores : Restores state.octets last marks
