-- Statement: what the calls of a device make of its store, and what they hand out.
use Rattle.std.specs.Prelude.{◌≡◌, ℕ, ◌+◌, ◌==◌, ◌&&◌, nat_le, Bool, true, false, List, [], ◌∷◌, length, position, slice_index, Option, Some, None, Result, Ok, Err}
use Rattle.knx_base.specs.declared.address.IndAddr.{IndAddr}
use Rattle.knx_base.specs.declared.address.GroupAddr.{GroupAddr}
use Rattle.nvm_model.specs.Nvm.{State}
use Rattle.seq_store.specs.Calls.{IsHandedBack}
use Rattle.seq_store.specs.Layout.{most_lanes, store_size}
use Rattle.seq_store.specs.Runs.{Raise, Mark, numbers_in}
use Rattle.seq_store.specs.Store.{StoreState, lanes_of, numbers_of}
use Rattle.seq_store.specs.declared.fault.DrawFault.{DrawFault}
use Rattle.seq_store.specs.declared.fault.StoreFault.{StoreFault}
use Rattle.cemi_frames.specs.Frames.{Telegram}
use Rattle.key_tables.specs.declared.types.Lane.{Lane}
use Rattle.key_tables.specs.declared.types.Row.{Row}
use Rattle.key_tables.specs.Lanes.{same_lane}
use Rattle.judge_rules.specs.declared.verdict.Verdict.{Verdict}
use Rattle.judge_rules.specs.declared.verdict.Verdict.TheVariants as verdict
use Rattle.judge_rules.specs.Checks.{Kept, lane_in, verdict_of, kept_by, opened_by}
use Rattle.secure_apdu.specs.declared.sealing.SendHead.{SendHead}
use Rattle.small_device.specs.declared.starting.NotStarted.{NotStarted}
use Rattle.small_device.specs.declared.starting.NotStarted.TheVariants.{Size, Store}

-- ---- starting

-- a memory of the size for so many lanes, and there may be so many
abbrev pub fits_lanes : ℕ → List ℕ → Bool
fits_lanes lanes octets = nat_le lanes most_lanes && length octets == store_size lanes

-- A store with the numbers that these octets restore; its next number is one above the last reserved one.
pub record IsStarted {M : Type 0} (lanes : ℕ) (octets : List ℕ) (store : StoreState M) : Type 0 where
  pub lanes_are : lanes_of store ≡ lanes
  pub numbers : numbers_of store ≡ numbers_in lanes octets
  pub next : store.next ≡ store.reserved + 1
  pub sound : store.sound ≡ true

abbrev pub is_size : {S M : Type 0} → Result S (NotStarted M) → Bool
is_size (Err (Size _)) = true
is_size _ = false

-- the store's refusal, if it was that
abbrev pub refusal_in : {S M : Type 0} → Result S (NotStarted M) → Option StoreFault
refusal_in (Err (Store refused)) = Some refused.fault
refusal_in _ = None

-- The memory comes back: as it was where its size is another, else as the store hands it back.
abbrev pub IsBack : {M : Type 0} → NotStarted M → M → (M → State) → (M → ℕ → List ℕ → Type 0)
    → Type 0
IsBack (Size back) memory state images = back ≡ memory
IsBack (Store refused) memory state images =
    IsHandedBack refused.fault (refused.memory ≡ memory) (state memory) (state refused.memory)
    (images memory) (images refused.memory)

-- ---- sending

-- data for a group, encrypted, under this number
abbrev pub group_head : IndAddr → GroupAddr → ℕ → SendHead
group_head source group number = record {
  source = source;
  destination = group.0;
  group = true;
  number = number;
  shown = number;
  field = 0x10;
}

-- the frame under the number that was drawn, or the octets that were there
abbrev pub handed : (ℕ → List ℕ) → Result ℕ DrawFault → List ℕ → List ℕ
handed frame (Ok number) before = frame number
handed frame (Err _) before = before

-- ---- taking

-- the index of a lane among those of the device
abbrev pub place_in : List Lane → Option Lane → Option ℕ
place_in lanes None = None
place_in lanes (Some lane) = position (same_lane lane) lanes

-- what is told of a telegram, the raise that stands before it, and the APDU that may be acted on behind it
pub record Taken : Type 0 where
  pub verdict : Option Verdict
  pub raises : List Raise
  pub apdu : List ℕ

abbrev pub kept_raises : ℕ → Kept → List Raise
kept_raises place None = []
kept_raises place (Some kept) = Mark place kept.1 ∷ []

-- an APDU may be acted on where its telegram was accepted
abbrev pub to_act_on : Verdict → List ℕ → List ℕ
to_act_on (verdict.Accepted _ _) apdu = apdu
to_act_on _ apdu = []

-- judged under the mark at this place; the device asked for no synchronisation
abbrev pub taken_at : List Row → List ℕ → Telegram → Option ℕ → Taken
taken_at rows marks t None = record { verdict = None; raises = []; apdu = [] }
taken_at rows marks t (Some place) =
    let mark = slice_index marks place in
    let said = verdict_of rows mark None t in
    record {
      verdict = Some said;
      raises = kept_raises place (kept_by rows mark None t);
      apdu = to_act_on said (opened_by rows None t);
    }

-- what a device with these rows, lanes and marks takes of a telegram
abbrev pub taken : List Row → List Lane → List ℕ → Telegram → Taken
taken rows lanes marks t = taken_at rows marks t (place_in lanes (lane_in rows t))
