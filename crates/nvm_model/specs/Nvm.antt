-- Statement: what calls of a memory do, for one call and for a list of writes in turn.
use Rattle.std.specs.Prelude.{◌≡◌, ◌⊎◌, ℕ, ◌+◌, ◌≤◌, Bool, true, false, List, length, Option, Some, None, IsSome, Result, Ok, Err}
use Rattle.knx_base.specs.Faults.{counted, Rose}
use Rattle.nvm_model.specs.Write.{Write, written, Reached, PartWritten}
use Rattle.nvm_model.specs.Plan.{Struck, strike}
use Rattle.nvm_model.specs.declared.fault.NvmFault.{NvmFault}
use Rattle.nvm_model.specs.declared.fault.NvmFault.TheVariants.{Failed, Cut}
use Rattle.nvm_model.specs.declared.plan.Plan.{Plan}

-- what a memory shows of itself, beside its images
pub record State : Type 0 where
  pub octets : List ℕ
  pub powered : Bool
  pub clock : ℕ
  pub faults : ℕ
  pub cuts : ℕ
  -- None where the memory does not tell it
  pub plan : Option Plan

-- the fault of an answer; Ok is none
abbrev pub fault_of : {T : Type 0} → Result T NvmFault → Option NvmFault
fault_of (Ok _) = None
fault_of (Err fault) = Some fault

-- a count of the calls that failed, or were cut, after one more call; it stands still at its type's last value
abbrev pub faults_after : Option NvmFault → ℕ → ℕ
faults_after (Some Failed) n = counted n
faults_after (Some Cut) n = n
faults_after None n = n

abbrev pub cuts_after : Option NvmFault → ℕ → ℕ
cuts_after (Some Cut) n = counted n
cuts_after (Some Failed) n = n
cuts_after None n = n

-- whether an answer leaves power on
abbrev pub is_on_after : Option NvmFault → Bool
is_on_after None = true
is_on_after (Some Failed) = true
is_on_after (Some Cut) = false

-- Each fault has its cause: Failed a count of faults that rose in this call, Cut a count of cuts that did, or power
-- that was off. Ok leaves both counts as they were.
pub record HasNvmCause (answer : Option NvmFault) (old new : State) : Type 0 where
  pub faults : old.faults ≤ new.faults
  pub cuts : old.cuts ≤ new.cuts
  pub kept : answer ≡ None → (new.faults ≡ old.faults) × (new.cuts ≡ old.cuts)
  pub failed : answer ≡ Some Failed → Rose old.faults new.faults
  pub cut : answer ≡ Some Cut → Rose old.cuts new.cuts ⊎ (old.powered ≡ false)
  -- without power every call answers Cut
  pub off : old.powered ≡ false → answer ≡ Some Cut
  pub power : new.powered ≡ is_on_after answer

-- For each clock value up to this one, every image since it after a call is an image since it before the call, or has
-- P.
abbrev pub LeavesOnly : ℕ → (ℕ → List ℕ → Type 0) → (ℕ → List ℕ → Type 0) → (List ℕ → Type 0) → Type 0
LeavesOnly clock past since P = (t : ℕ) (c : List ℕ) → t ≤ clock → since t c → past t c ⊎ P c

-- For each clock value up to this one, the images since it are the same before and after a call.
abbrev pub SameImages : ℕ → (ℕ → List ℕ → Type 0) → (ℕ → List ℕ → Type 0) → Type 0
SameImages clock past since = (t : ℕ) (c : List ℕ) → t ≤ clock → (since t c → past t c) × (past t c → since t c)

-- one read, or several in turn
pub record Reads (answer : Option NvmFault) (old new : State) (past since : ℕ → List ℕ → Type 0) : Type 0 where
  pub cause : HasNvmCause answer old new
  pub octets : new.octets ≡ old.octets
  pub clock : new.clock ≡ old.clock
  pub plan : new.plan ≡ old.plan
  pub images : SameImages old.clock past since
  pub never_fails_where_told : IsSome old.plan → old.powered ≡ true → answer ≡ None

-- after Ok the writes are made, after a fault some of them are, and the next one is torn
abbrev pub Leaves : List Write → Option NvmFault → List ℕ → List ℕ → Type 0
Leaves writes None old new = new ≡ written writes old
Leaves writes (Some _) old new = PartWritten writes old new

-- answer, octets and plan are those of a strike
pub record IsStruck (struck : Struck) (answer : Option NvmFault) (new : State) : Type 0 where
  pub answered : answer ≡ struck.answer
  pub octets : new.octets ≡ struck.octets
  pub plan : new.plan ≡ Some struck.plan

-- These writes in turn, up to the first that is not answered Ok. A single write is the list of one.
pub record Makes (writes : List Write) (answer : Option NvmFault) (old new : State)
    (past since : ℕ → List ℕ → Type 0) : Type 0 where
  pub cause : HasNvmCause answer old new
  -- the clock counts at most the writes
  pub later : old.clock ≤ new.clock
  pub few : new.clock ≤ old.clock + length writes
  pub size : length new.octets ≡ length old.octets
  pub images : LeavesOnly old.clock past since (Reached writes old.octets)
  pub octets : Leaves writes answer old.octets new.octets
  pub off : old.powered ≡ false → new.octets ≡ old.octets
  pub off_plan : old.powered ≡ false → new.plan ≡ old.plan
  -- where the plan is told, and power is on
  pub told : (plan : Plan) → old.plan ≡ Some plan → old.powered ≡ true
      → IsStruck (strike writes plan old.octets) answer new
