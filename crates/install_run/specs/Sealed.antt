-- Statement: the telegrams that nodes put on the air, each sealed under its node's address and next number, and that
-- no two of them have one counter block.
use Rattle.std.specs.Prelude.{◌≡◌, ◌≢◌, ℕ, ◌<◌, ◌^◌, ◌==◌, List, [], ◌∷◌, ◌++◌, length, map, slice_get, get_or, Option, Some, None, if◌then◌else◌}
use Rattle.std.specs.List.{All, AllPairs}
use Rattle.knx_ccm.specs.Sealing.{counter_0}
use Rattle.secure_apdu.specs.SealedFrame.{sealed_head, sealed_frame}
use Rattle.secure_apdu.specs.declared.sealing.SendHead.{SendHead}
use Rattle.node_core.specs.Standing.{Standing}
use Rattle.script_text.specs.declared.event.Event.{Event}
use Rattle.script_text.specs.declared.node_row.NodeRow.{NodeRow}
use Rattle.step_text.specs.declared.outcome.Step.{Step}
use Rattle.install_run.specs.Histories.{Draw, drawn_by}
use Rattle.install_run.specs.Machine.{WorldAt, put_on_air, has_telegram, node_in}
use Rattle.install_run.specs.Runs.{place_of, after, step_of}

-- a telegram that the node at this place put on the air, with the number that it drew for it
pub record SealedAt : Type 0 where
  pub place : ℕ
  pub number : ℕ
  pub octets : List ℕ

-- the number that a node draws next, if it runs
abbrev pub next_of : Option Standing → ℕ
next_of None = 0
next_of (Some s) = s.next

-- The number is the next one before the step, and the octets are those that are on the air behind the telegrams that
-- were there before it.
abbrev pub telegram_of : Event → WorldAt → ℕ → SealedAt
telegram_of e w place = record {
  place = place;
  number = next_of (node_in w place).standing;
  octets = (get_or (after e w).air (length w.air) (put_on_air [])).octets;
}

-- what the node of an event put on the air in its step
abbrev pub sealed_in : Event → WorldAt → Option ℕ → List SealedAt
sealed_in e w None = []
sealed_in e w (Some place) = if has_telegram (step_of e w).outcome then telegram_of e w place ∷ [] else []

-- what nodes put on the air in the steps of these events
abbrev pub all_sealed : List Event → WorldAt → List SealedAt
all_sealed [] w = []
all_sealed (e ∷ events) w = sealed_in e w (place_of e) ++ all_sealed events (after e w)

-- the numbers of those of the node at this place
abbrev pub numbers_at : ℕ → List SealedAt → List ℕ
numbers_at place [] = []
numbers_at place (t ∷ ts) = if place == t.place then t.number ∷ numbers_at place ts else numbers_at place ts

abbrev pub number_in : Draw → ℕ
number_in draw = draw.number

-- ---- what holds of them, among these nodes

-- Its source is the address of the telegram's node, and its nonce number the one that was drawn, whatever number it
-- shows.
pub record IsHeadOf (nodes : List NodeRow) (t : SealedAt) (head : SendHead) : Type 0 where
  pub row : NodeRow
  pub row_is : slice_get nodes t.place ≡ Some row
  pub source : head.source ≡ row.address
  pub number : head.number ≡ t.number
  pub number_fits : head.number < 2 ^ 48

-- The octets are the frame of some APDU, sealed under some key and such a head.
pub record IsSealed (nodes : List NodeRow) (t : SealedAt) : Type 0 where
  pub key : List ℕ
  pub head : SendHead
  pub apdu : List ℕ
  pub head_is : IsHeadOf nodes t head
  pub octets_are : t.octets ≡ sealed_frame key head apdu

-- No head of the one has the counter block of a head of the other.
abbrev pub HaveTwoBlocks : List NodeRow → SealedAt → SealedAt → Type 0
HaveTwoBlocks nodes t u =
    (of_t of_u : SendHead) → IsHeadOf nodes t of_t → IsHeadOf nodes u of_u
    → counter_0 (sealed_head of_t) ≢ counter_0 (sealed_head of_u)

-- The numbers are those that the outcomes tell as drawn; each telegram is sealed under the address of its node and its
-- number; and no two have one counter block.
pub record HaveBlocksOfTheirOwn (nodes : List NodeRow) (history : List Step) (telegrams : List SealedAt) : Type 0 where
  pub drawn : (place : ℕ) (row : NodeRow) → slice_get nodes place ≡ Some row
      → numbers_at place telegrams ≡ map number_in (drawn_by place row history)
  pub sealed : All (IsSealed nodes) telegrams
  pub blocks : AllPairs (HaveTwoBlocks nodes) telegrams
