-- Statement: the simulated memory.
use Rattle.std.specs.Prelude.{◌≡◌, ℕ, true, false, List, Option, Some}
use Rattle.knx_base.specs.Faults.{counted}
use Rattle.nvm_model.specs.Nvm.{State, faults_after, cuts_after}
use Rattle.nvm_model.specs.declared.fault.NvmFault.{NvmFault}
use Rattle.nvm_model.specs.declared.plan.Plan.{Plan}
use Rattle.nvm_model.specs.declared.sim.SimNvm.{SimNvm}

-- what a simulated memory shows: it tells its plan
abbrev pub sim_state : SimNvm → State
sim_state m = record {
  octets = m.octets.items;
  powered = m.powered;
  clock = m.clock;
  faults = m.faults;
  cuts = m.cuts;
  plan = Some m.plan;
}

-- its one image, since each moment
abbrev pub sim_images : SimNvm → ℕ → List ℕ → Type 0
sim_images m t image = image ≡ m.octets.items

-- the plan with this cut armed, or this fault
abbrev pub with_cut : ℕ → ℕ → Plan → Plan
with_cut write torn plan = record plan { cut = Some (record { writes = write; torn = torn }) }

abbrev pub with_fault : ℕ → ℕ → Plan → Plan
with_fault write torn plan = record plan { fault = Some (record { writes = write; torn = torn }) }

-- A write with power on is counted by what it answers; without power nothing changes.
pub record CountsWrite (answer : Option NvmFault) (old new : State) : Type 0 where
  pub clock : old.powered ≡ true → new.clock ≡ counted old.clock
  pub faults : old.powered ≡ true → new.faults ≡ faults_after answer old.faults
  pub cuts : old.powered ≡ true → new.cuts ≡ cuts_after answer old.cuts
  pub off : old.powered ≡ false → new ≡ old
