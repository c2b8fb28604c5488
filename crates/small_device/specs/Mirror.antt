-- Plumbing: a memory that is a copy of a part's octets.
use Rattle.std.specs.Prelude.{ℕ, true, List, None}
use Rattle.nvm_model.specs.Nvm.{State}
use Rattle.nvm_model.specs.LastWrite.{IsSinceLast}
use Rattle.small_device.specs.declared.mirror.MirroredNvm.{MirroredNvm}

-- what it shows: power is on while the program runs, and it tells no plan
abbrev pub mirror_state : {P : Type 0} → MirroredNvm P → State
mirror_state m = record {
  octets = m.octets.items;
  powered = true;
  clock = m.clock;
  faults = m.faults;
  cuts = 0;
  plan = None;
}

-- a cut may fall inside its last write
abbrev pub mirror_images : {P : Type 0} → MirroredNvm P → ℕ → List ℕ → Type 0
mirror_images m t image = IsSinceLast t m.clock m.last_at m.last_len m.octets.items image

-- the part that it is a copy of
abbrev pub mirrored_part : {P : Type 0} → MirroredNvm P → P
mirrored_part m = m.part

-- with these octets, before any call
abbrev pub new_state : List ℕ → State
new_state octets = record { octets = octets; powered = true; clock = 0; faults = 0; cuts = 0; plan = None }
