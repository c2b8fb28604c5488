-- Statement: what a plan of an armed cut and an armed fault does to writes.
use Rattle.std.specs.Prelude.{ℕ, ◌-◌, ◌==◌, List, [], ◌∷◌, length, replicate, Option, Some, None, if◌then◌else◌}
use Rattle.nvm_model.specs.Write.{Write, put}
use Rattle.nvm_model.specs.declared.fault.NvmFault.{NvmFault}
use Rattle.nvm_model.specs.declared.fault.NvmFault.TheVariants.{Failed, Cut}
use Rattle.nvm_model.specs.declared.plan.Armed.{Armed}
use Rattle.nvm_model.specs.declared.plan.Plan.{Plan}

-- the octet that the next write leaves, where its number becomes 0 at that write
abbrev pub due : Option Armed → Option ℕ
due None = None
due (Some armed) = if armed.writes - 1 == 0 then Some armed.torn else None

-- what is armed after one write: its number less one, and nothing where it struck
abbrev pub lessened : Option Armed → Option Armed
lessened None = None
lessened (Some armed) = if armed.writes - 1 == 0 then None else Some (record armed { writes = armed.writes - 1 })

abbrev pub plan_after : Plan → Plan
plan_after plan = record { cut = lessened plan.cut; fault = lessened plan.fault }

-- what writes leave; no fault is Ok
pub record Struck : Type 0 where
  pub answer : Option NvmFault
  pub octets : List ℕ
  pub plan : Plan

-- a write with each of its octets torn to this one
abbrev pub torn_to : ℕ → Write → Write
torn_to torn w = record { at = w.at; bytes = replicate (length w.bytes) torn }

-- The cut comes first where both strike.
abbrev pub struck_by : Option ℕ → Option ℕ → Write → Plan → List ℕ → Struck
struck_by (Some torn) _ w plan octets = record { answer = Some Cut; octets = put (torn_to torn w) octets; plan = plan }
struck_by None (Some torn) w plan octets =
    record { answer = Some Failed; octets = put (torn_to torn w) octets; plan = plan }
struck_by None None w plan octets = record { answer = None; octets = put w octets; plan = plan }

abbrev pub strike_one : Write → Plan → List ℕ → Struck
strike_one w plan octets = struck_by (due plan.cut) (due plan.fault) w (plan_after plan) octets

-- goes on from where the first writes left off, if they are all whole
abbrev pub and_then : Struck → (Plan → List ℕ → Struck) → Struck
and_then struck next = then_at struck.answer struck next where
  then_at : Option NvmFault → Struck → (Plan → List ℕ → Struck) → Struck
  then_at None struck next = next struck.plan struck.octets
  then_at (Some _) struck next = struck

-- these writes in turn, up to the first that is struck
abbrev pub strike : List Write → Plan → List ℕ → Struck
strike [] plan octets = record { answer = None; octets = octets; plan = plan }
strike (w ∷ writes) plan octets = and_then (strike_one w plan octets) (strike writes)

-- nothing is armed
abbrev pub unarmed : Plan
unarmed = record { cut = None; fault = None }
