-- Statement: what every layout of a memory's numbers keeps, in the names that the layout gives.
use Rattle.std.specs.Prelude.{◌≡◌, ◌≢◌, ◌⊎◌, ℕ, ◌+◌, ◌^◌, ◌<◌, ◌≤◌, List, length, slice_index, Option, Some, None, IsSome}
use Rattle.std.specs.List.{All}
use Rattle.nvm_model.specs.Nvm.{State, Makes, LeavesOnly}
use Rattle.nvm_model.specs.declared.fault.NvmFault.{NvmFault}
use Rattle.nvm_model.specs.Write.{FitsIn, written, Reached}
use Rattle.seq_store.specs.Layout.{most_lanes, store_size, place_of, value_of, raise_writes}

-- the last reserved number that an image restores, and the mark of a lane: values 0 and 1 + lane
abbrev pub restore_reserved : ℕ → List ℕ → Option ℕ
restore_reserved lanes image = value_of lanes image 0

abbrev pub restore : ℕ → List ℕ → ℕ → Option ℕ
restore lanes image lane = value_of lanes image (1 + lane)

-- an image of the right size that has every value
pub record Ready (lanes : ℕ) (image : List ℕ) : Type 0 where
  pub size : length image ≡ store_size lanes
  pub values : (v : ℕ) → v ≤ lanes → IsSome (value_of lanes image v)

-- this last reserved number and these marks
pub record Restores (image : List ℕ) (last : ℕ) (marks : List ℕ) : Type 0 where
  pub size : length image ≡ store_size (length marks)
  pub reserved : restore_reserved (length marks) image ≡ Some last
  pub each : (lane : ℕ) → lane < length marks → restore (length marks) image lane ≡ Some (slice_index marks lane)

-- The image is ready, this value is the number, and every other value is as before.
pub record IsRaised (lanes : ℕ) (old : List ℕ) (v n : ℕ) (image : List ℕ) : Type 0 where
  pub ready : Ready lanes image
  pub here : value_of lanes image v ≡ Some n
  pub others : (w : ℕ) → w ≤ lanes → w ≢ v → value_of lanes image w ≡ value_of lanes old w

-- The image is ready, this value is the old one or the number, and every other value is as before.
pub record IsOldOrRaised (lanes : ℕ) (old : List ℕ) (v n : ℕ) (image : List ℕ) : Type 0 where
  pub ready : Ready lanes image
  pub here : (value_of lanes image v ≡ value_of lanes old v) ⊎ (value_of lanes image v ≡ Some n)
  pub others : (w : ℕ) → w ≤ lanes → w ≢ v → value_of lanes image w ≡ value_of lanes old w

-- a raise that may be made: of a value that is there, to a greater number of 48 bits
pub record MayRaise (lanes : ℕ) (image : List ℕ) (v n : ℕ) : Type 0 where
  pub lanes_fit : lanes ≤ most_lanes
  pub ready : Ready lanes image
  pub in_range : v ≤ lanes
  pub old : ℕ
  pub here : value_of lanes image v ≡ Some old
  pub above : old < n
  pub fits : n < 2 ^ 48

-- at most three writes, each inside the image and not empty
pub record HasFewWrites (lanes : ℕ) (image : List ℕ) (v n : ℕ) : Type 0 where
  pub at_most_three : length (raise_writes lanes image v n) ≤ 3
  pub each_fits : All (FitsIn (length image)) (raise_writes lanes image v n)

-- The laws of a raise: few writes; after all of them the value is raised; at each moment of them it is the old one or
-- the new.
pub record HasRaiseLaws (lanes : ℕ) (image : List ℕ) (v n : ℕ) : Type 0 where
  pub few : HasFewWrites lanes image v n
  pub whole : IsRaised lanes image v n (written (raise_writes lanes image v n) image)
  pub torn : (c : List ℕ) → Reached (raise_writes lanes image v n) image c → IsOldOrRaised lanes image v n c

-- the first value that the image does not have is kept at this place
pub record IsUnformattedAt (lanes : ℕ) (image : List ℕ) (place : ℕ) : Type 0 where
  pub value : ℕ
  pub in_range : value ≤ lanes
  pub is_place : place ≡ place_of lanes value
  pub none : value_of lanes image value ≡ None
  pub first : (w : ℕ) → w < value → IsSome (value_of lanes image w)

-- What the raise of this value makes of a memory, whatever it is answered. At each moment the value is the old one or
-- the number, and after Ok it is the number. It takes at most three writes.
pub record Raises (lanes v n : ℕ) (answer : Option NvmFault) (old new : State)
    (past since : ℕ → List ℕ → Type 0) : Type 0 where
  pub makes : Makes (raise_writes lanes old.octets v n) answer old new past since
  pub any_moment : LeavesOnly old.clock past since (IsOldOrRaised lanes old.octets v n)
  pub now : IsOldOrRaised lanes old.octets v n new.octets
  pub raised : answer ≡ None → IsRaised lanes old.octets v n new.octets
  pub few : new.clock ≤ old.clock + 3
