-- Statement: what the calls of a store do, by themes.
use Rattle.std.specs.Prelude.{◌≡◌, ◌≢◌, ◌↔◌, ℕ, ◌+◌, ◌-◌, ◌^◌, ◌<◌, ◌≤◌, true, List, Result, Err, Option, Some, IsOk, IsSome, IfOk, OnOk, OnErr}
use Rattle.knx_base.specs.Faults.{Rose}
use Rattle.nvm_model.specs.Nvm.{State, HasNvmCause, Reads}
use Rattle.nvm_model.specs.declared.fault.NvmFault.{NvmFault}
use Rattle.nvm_model.specs.declared.fault.NvmFault.TheVariants.{Cut}
use Rattle.seq_store.specs.Draws.{reservation_for, IsDraw}
use Rattle.seq_store.specs.Laws.{Raises}
use Rattle.seq_store.specs.Refusal.{read_fault, draw_fault}
use Rattle.seq_store.specs.Runs.{Raise, RestoresNumbers, after_raises}
use Rattle.seq_store.specs.Store.{StoreState, lanes_of, numbers_of}
use Rattle.seq_store.specs.declared.fault.DrawFault.{DrawFault}
use Rattle.seq_store.specs.declared.fault.DrawFault.TheVariants.{Exhausted}
use Rattle.seq_store.specs.declared.fault.StoreFault.{StoreFault}
use Rattle.seq_store.specs.declared.fault.StoreFault.TheVariants.{Memory, NoMemory}

-- Each fault has its cause in a count of the memory that rose in this call. Power was on, so this holds of Cut too.
pub record HasCountedCause (answer : Option NvmFault) (old new : State) : Type 0 where
  pub cause : HasNvmCause answer old new
  pub cut : answer ≡ Some Cut → Rose old.cuts new.cuts

-- The memory of a store that was not started comes back: as it was where there was no room for the marks, else only
-- read.
pub record IsHandedBack (fault : StoreFault) (same : Type 0) (old new : State)
    (past since : ℕ → List ℕ → Type 0) : Type 0 where
  pub unread : fault ≡ NoMemory → same
  pub read : fault ≢ NoMemory → Reads (read_fault fault) old new past since
  -- where the memory tells its plan and power is on, no read fails
  pub told : IsSome old.plan → old.powered ≡ true → (cause : NvmFault) → fault ≢ Memory cause

-- The number that was drawn is the next one, and the one behind it is next then.
pub record IsNumberDrawn {M : Type 0} (result : Result ℕ DrawFault) (old new : StoreState M) : Type 0 where
  pub number : IfOk result (λ number. number ≡ old.next)
  pub next : OnOk result (new.next ≡ old.next + 1)
  pub refused : OnErr result (new.next ≡ old.next)
  pub exhausted : (result ≡ Err Exhausted) ↔ (old.next ≡ 2 ^ 48)
  pub unchanged : result ≡ Err Exhausted → new ≡ old

-- Behind raises a store has the numbers that they leave; after a fault it has those from before.
pub record IsRenumbered {A E M : Type 0} (result : Result A E) (raises : List Raise)
    (old new : StoreState M) : Type 0 where
  pub raised : OnOk result (numbers_of new ≡ after_raises raises (numbers_of old))
  pub same : OnErr result (numbers_of new ≡ numbers_of old)

-- A draw of a number that is reserved leaves its memory alone; else the reservation is raised first. So a start over
-- the octets goes on above the number.
pub record ReservesFirst {M : Type 0} (result : Result ℕ DrawFault) (old new : StoreState M) (state : M → State)
    (images : M → ℕ → List ℕ → Type 0) : Type 0 where
  pub restores : RestoresNumbers (numbers_of old) (state old.memory).octets
  pub is_reserved : old.next ≤ old.reserved → IsOk result × (new.memory ≡ old.memory)
  pub raises : old.reserved < old.next → old.next < 2 ^ 48
      → Raises (lanes_of old) 0 (reservation_for old.reserved old.next) (draw_fault result)
      (state old.memory) (state new.memory) (images old.memory) (images new.memory)
  pub covered : IfOk result (λ number. number ≤ new.reserved)
  pub marks : new.marks ≡ old.marks

-- at most three writes, and none where the number is reserved
pub record TakesFewWrites {M : Type 0} (old new : StoreState M) (state : M → State) : Type 0 where
  pub few : (state new.memory).clock ≤ (state old.memory).clock + 3
  pub is_draw : IsDraw old.reserved old.next (record {
    writes = (state new.memory).clock - (state old.memory).clock;
    sound = new.sound;
    last = new.reserved;
    next = new.next;
  })
