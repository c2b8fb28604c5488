-- What synchronisations make of the numbers of the two nodes, the requester and the responder. This is statement.
-- Each sentence is of one node and of its own steps; Exchanged ties the two nodes together.
use Rattle.std.specs.Prelude.{◌≡◌, ℕ, ◌-◌, ◌<◌, max, List, [], ◌∷◌, Bool, true, false, Option, Some, None, IfSome, if◌then◌else◌}
use Rattle.std.specs.List.{All}
use Rattle.cemi_frames.specs.Reading.{frame_at}
use Rattle.key_tables.specs.declared.types.Channel.{Channel}
use Rattle.key_tables.specs.declared.types.Lane.{Lane}
use Rattle.key_tables.specs.declared.types.Lane.TheVariants as lanes
use Rattle.key_tables.specs.Rows.{key_of}
use Rattle.judge_rules.specs.Checks.{lane_in, kept_by, check_stale}
use Rattle.judge_rules.specs.Parts.{source_of}
use Rattle.sync_service.specs.Frames.{answer_frame}
use Rattle.sync_service.specs.Open.{asked_of}
use Rattle.node_core.specs.Sending.{device_channel}
use Rattle.node_core.specs.Standing.{Standing}
use Rattle.script_text.specs.declared.event.Event.{Event}
use Rattle.script_text.specs.declared.event.Event.TheVariants as event
use Rattle.script_text.specs.declared.node_row.NodeRow.{NodeRow}
use Rattle.step_text.specs.declared.outcome.Step.{Step}
use Rattle.step_text.specs.declared.outcome.StepOutcome.{StepOutcome}
use Rattle.step_text.specs.declared.outcome.StepOutcome.TheVariants as outcome
use Rattle.install_run.specs.Calls.{call_of}
use Rattle.install_run.specs.Histories.{Draw, draws, next_after, reserved_after, outcomes_of}
use Rattle.install_run.specs.Journals.{mark_on}
use Rattle.install_run.specs.Machine.{TelegramAt, WorldAt, telegram_in, heard, node_in}
use Rattle.install_run.specs.Runs.{place_of, is_at, after, step_of}

-- ---- what a node draws later

-- in this step the node stopped
abbrev pub is_stop : StepOutcome → Bool
is_stop outcome.Cut = true
is_stop outcome.Fault = true
is_stop outcome.Down = true
is_stop said = false

-- these outcomes of a node up to its next stop
abbrev pub until_stop : List StepOutcome → List StepOutcome
until_stop [] = []
until_stop (said ∷ later) = if is_stop said then [] else said ∷ until_stop later

-- each of these numbers is above that one
abbrev pub AreAbove : ℕ → List Draw → Type 0
AreAbove number drawn = All (λ (draw : Draw). number < draw.number) drawn

-- the number of the requester that a taken answer tells as kept
abbrev pub kept_told : StepOutcome → Option ℕ
kept_told (outcome.Synced number kept then_next) = Some kept
kept_told _ = None

-- After each answer that is taken, each number that the node draws before its next stop is above the kept one that the
-- answer told.
abbrev pub GoesOnAboveKept : ℕ → ℕ → List StepOutcome → Type 0
GoesOnAboveKept reserved next [] = Unit {0}
GoesOnAboveKept reserved next (said ∷ later) =
    let reserved' = reserved_after reserved next said in
    let next' = next_after next said in
    IfSome (kept_told said) (λ kept. AreAbove kept (draws reserved' next' (until_stop later)))
    × GoesOnAboveKept reserved' next' later

-- the challenge of a request that was answered, and the telegram of the reply
abbrev pub answered_in : StepOutcome → Option (List ℕ × ℕ)
answered_in (outcome.Answered challenge (Some telegram)) = Some (challenge, telegram)
answered_in _ = None

-- After each answer that the node sends, each number that it draws, through stops and starts, is above the answer's.
abbrev pub GoesOnAboveAnswers : ℕ → ℕ → List StepOutcome → Type 0
GoesOnAboveAnswers reserved next [] = Unit {0}
GoesOnAboveAnswers reserved next (said ∷ later) =
    let reserved' = reserved_after reserved next said in
    let next' = next_after next said in
    IfSome (answered_in said) (λ answered. AreAbove next (draws reserved' next' later))
    × GoesOnAboveAnswers reserved' next' later

-- ---- what passes at the other node

-- While the mark of this lane is what it is in this state, a number above that one passes the check of numbers there.
abbrev pub PassesAbove : ℕ → WorldAt → ℕ → Lane → Type 0
PassesAbove kept w place lane =
    (later : WorldAt) (number : ℕ) → mark_on later place lane ≡ mark_on w place lane → kept < number
    → check_stale (mark_on later place lane) number ≡ None

-- the octets that this event brings to its node
abbrev pub brought : Event → List TelegramAt → Option (List ℕ)
brought (event.Deliver telegram node) air = heard (telegram_in air telegram)
brought e air = None

-- A reply: the request and its lane, and the number that the reply tells as kept. The reply is sealed under the key of
-- the channel between the two devices. The kept number is the greater of the marks of the requester, for groups and on
-- the lane of the request, when the reply was drawn; and so a number above it passes on both lanes while the mark there
-- does not rise.
pub record IsReply (e : Event) (w : WorldAt) (place : ℕ) (challenge : List ℕ) : Type 0 where
  pub before : Standing
  pub runs : (node_in w place).standing ≡ Some before
  pub request : List ℕ
  pub brings : brought e w.air ≡ Some request
  pub lane : Lane
  pub lane_is : lane_in (node_in w place).config.rows (frame_at request) ≡ Some lane
  pub channel : Channel
  pub channel_is : device_channel (node_in w place).config (source_of (frame_at request)) ≡ Some channel
  pub key : List ℕ
  pub key_is : key_of (node_in w place).config.rows channel ≡ Some key
  pub kept : ℕ
  pub sends : (call_of e w.air (node_in w place).config before).frame
      ≡ Some (answer_frame key (node_in w place).config.address (source_of (frame_at request)) before.next challenge
      kept)
  pub kept_is : kept
      ≡ max (mark_on (after e w) place (lanes.Run (source_of (frame_at request)))) (mark_on (after e w) place lane)
  pub for_groups : PassesAbove kept (after e w) place (lanes.Run (source_of (frame_at request)))
  pub on_lane : PassesAbove kept (after e w) place lane

-- Each answer that the node at this place sends in one of these steps is such a reply.
abbrev pub RepliesTellMarks : ℕ → List Event → WorldAt → Type 0
RepliesTellMarks place [] w = Unit {0}
RepliesTellMarks place (e ∷ events) w =
    (is_at place (place_of e) ≡ true
    → IfSome (answered_in (step_of e w).outcome) (λ answered. IsReply e w place answered.0))
    × RepliesTellMarks place events (after e w)

-- the number of a taken answer
abbrev pub taken_in : StepOutcome → Option ℕ
taken_in (outcome.Synced number kept then_next) = Some number
taken_in _ = None

-- A taken answer, and its lane. Where its number was kept on it, a number above that one passes there while the mark
-- does not rise.
pub record IsTaken (e : Event) (w : WorldAt) (place number : ℕ) : Type 0 where
  pub before : Standing
  pub runs : (node_in w place).standing ≡ Some before
  pub answer : List ℕ
  pub brings : brought e w.air ≡ Some answer
  pub lane : Lane
  pub lane_is : lane_in (node_in w place).config.rows (frame_at answer) ≡ Some lane
  pub passes : kept_by (node_in w place).config.rows (mark_on w place lane)
      (asked_of before.pending (source_of (frame_at answer))) (frame_at answer)
      ≡ Some (lane, number)
      → PassesAbove number (after e w) place lane

-- Each answer that the node at this place takes in one of these steps is such a one.
abbrev pub TakenPass : ℕ → List Event → WorldAt → Type 0
TakenPass place [] w = Unit {0}
TakenPass place (e ∷ events) w =
    (is_at place (place_of e) ≡ true → IfSome (taken_in (step_of e w).outcome) (λ number. IsTaken e w place number))
    × TakenPass place events (after e w)

-- ---- of a node of a script

-- What answers make of the numbers that the node draws and of those that pass its check, of the answers that it takes
-- and of those that it sends.
pub record Synchronises (place : ℕ) (row : NodeRow) (events : List Event) (first : WorldAt) (history : List Step)
    : Type 0 where
  pub takes : GoesOnAboveKept (row.next - 1) row.next (outcomes_of place history)
  pub answers : GoesOnAboveAnswers (row.next - 1) row.next (outcomes_of place history)
  pub replies : RepliesTellMarks place events first
  pub taken : TakenPass place events first
