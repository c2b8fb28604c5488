-- Statement: what ties the two ends of a synchronisation together: the numbers that the requester takes are those of
-- the reply. The words are those of Synchronising.
--
-- That the challenge which the requester has open is the one of the reply is a premise. Under another one the reply
-- opens under another number, and that its code of 32 bits does not match then is no theorem.
use Rattle.std.specs.Prelude.{◌≡◌, ℕ, ◌+◌, List, ◌∷◌, ◌++◌, Some}
use Rattle.knx_base.specs.declared.address.IndAddr.{IndAddr}
use Rattle.cemi_frames.specs.Reading.{frame_at}
use Rattle.key_tables.specs.declared.types.Lane.TheVariants as lanes
use Rattle.judge_rules.specs.Parts.{source_of}
use Rattle.sync_service.specs.Open.{asked_of}
use Rattle.node_core.specs.Standing.{Standing}
use Rattle.script_text.specs.declared.event.Event.{Event}
use Rattle.script_text.specs.declared.event.Event.TheVariants as event
use Rattle.step_text.specs.declared.outcome.StepOutcome.TheVariants as outcome
use Rattle.install_run.specs.Histories.{draws, outcomes_of}
use Rattle.install_run.specs.Machine.{WorldAt, node_in}
use Rattle.install_run.specs.Runs.{after, world_after, step_of, history_of}
use Rattle.install_run.specs.Synchronising.{until_stop, AreAbove, PassesAbove, IsReply, IsTaken}

-- ---- two steps of a history

-- A request is delivered to the responder, which answers its challenge with a telegram. That telegram is delivered to
-- the requester some events later, which takes it: it tells a number, a kept one, and its next.
pub record Exchange : Type 0 where
  -- the installation before both
  pub first : WorldAt
  pub request : ℕ
  pub responder : ℕ
  pub challenge : List ℕ
  pub telegram : ℕ
  pub between : List Event
  pub requester : ℕ
  pub number : ℕ
  pub kept : ℕ
  pub next : ℕ
  pub later : List Event

abbrev pub answering : Exchange → Event
answering x = event.Deliver x.request x.responder

abbrev pub taking : Exchange → Event
taking x = event.Deliver x.telegram x.requester

-- the events after the one step, and from it on
abbrev pub events_after : Exchange → List Event
events_after x = x.between ++ taking x ∷ x.later

abbrev pub events_from : Exchange → List Event
events_from x = answering x ∷ events_after x

-- the installation after the one step, before the other, and after that
abbrev pub answered : Exchange → WorldAt
answered x = after (answering x) x.first

abbrev pub waiting : Exchange → WorldAt
waiting x = world_after x.between (answered x)

abbrev pub taken : Exchange → WorldAt
taken x = after (taking x) (waiting x)

-- the addresses of both nodes
abbrev pub from_address : Exchange → IndAddr
from_address x = (node_in x.first x.responder).config.address

abbrev pub to_address : Exchange → IndAddr
to_address x = (node_in (waiting x) x.requester).config.address

-- So it comes, while the requester has this challenge open for the responder.
pub record IsExchanged (x : Exchange) : Type 0 where
  pub answers : (step_of (answering x) x.first).outcome ≡ outcome.Answered x.challenge (Some x.telegram)
  pub takes : (step_of (taking x) (waiting x)).outcome ≡ outcome.Synced x.number x.kept x.next
  pub standing : Standing
  pub runs : (node_in (waiting x) x.requester).standing ≡ Some standing
  pub asked : asked_of standing.pending (from_address x) ≡ Some x.challenge

-- ---- what they tell

-- The reply is one to the requester. What is taken is the number that the responder drew for it, and as kept the
-- greater of the responder's marks of the requester when it was drawn.
pub record AreOfReply (x : Exchange) (reply : IsReply (answering x) x.first x.responder x.challenge) : Type 0 where
  pub requester_is : source_of (frame_at reply.request) ≡ to_address x
  pub number_is : x.number ≡ reply.before.next
  pub kept_is : x.kept ≡ reply.kept

-- So each number that the requester draws up to its next stop is above the kept one, and such a number passes at the
-- responder for groups and on the lane of the request, while the mark there is what it was. And each number that the
-- responder draws later, through stops and starts, is above the one of the reply; where the requester kept that, such
-- a number passes there while the mark does not rise. What was reserved plays no part in these numbers.
pub record TellsTheSame (x : Exchange) : Type 0 where
  pub reply : IsReply (answering x) x.first x.responder x.challenge
  pub same : AreOfReply x reply
  pub goes_on : (reserved : ℕ)
      → AreAbove x.kept (draws reserved x.next (until_stop (outcomes_of x.requester (history_of x.later (taken x)))))
  pub for_groups : PassesAbove x.kept (answered x) x.responder (lanes.Run (to_address x))
  pub on_lane : PassesAbove x.kept (answered x) x.responder reply.lane
  pub responder_goes_on : (reserved : ℕ)
      → AreAbove x.number
      (draws reserved (x.number + 1) (outcomes_of x.responder (history_of (events_after x) (answered x))))
  pub back : IsTaken (taking x) (waiting x) x.requester x.number

-- So it is with each two such steps among these events.
abbrev pub EndsTellTheSame : List Event → WorldAt → Type 0
EndsTellTheSame events first =
    (before : List Event) (x : Exchange) → before ++ events_from x ≡ events → x.first ≡ world_after before first
    → IsExchanged x → TellsTheSame x
