-- Statement: what a store shows.
use Rattle.std.specs.Prelude.{ℕ, Bool, List, length}
use Rattle.seq_store.specs.Runs.{Numbers}
use Rattle.seq_store.specs.declared.store.SeqStore.{SeqStore}

-- its memory, the marks of its lanes, its last reserved number and its next one, and whether no call of its memory has
-- failed
pub record StoreState (M : Type 0) : Type 0 where
  pub memory : M
  pub marks : List ℕ
  pub reserved : ℕ
  pub next : ℕ
  pub sound : Bool

abbrev pub store_state : {M : Type 0} {g : _} → SeqStore M g → StoreState M
store_state s =
    record { memory = s.memory; marks = s.marks.items; reserved = s.reserved; next = s.next; sound = s.sound }

abbrev pub lanes_of : {M : Type 0} → StoreState M → ℕ
lanes_of s = length s.marks

-- what its memory restores while it is sound
abbrev pub numbers_of : {M : Type 0} → StoreState M → Numbers
numbers_of s = record { reserved = s.reserved; marks = s.marks }
