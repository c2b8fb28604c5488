-- Statement: what holds of every transition of a node, and of every configuration.
use Rattle.std.specs.Prelude.{◌≡◌, ◌↔◌, ℕ, ◌<◌, ◌^◌, List, ◌∷◌, slice_index, true, false, Option, Some, None, IfSome}
use Rattle.std.specs.Option.{is_some}
use Rattle.cemi_frames.specs.Faults.{frame_fault}
use Rattle.cemi_frames.specs.Frames.{Telegram}
use Rattle.cemi_frames.specs.Reading.{frame_at}
use Rattle.key_tables.specs.declared.types.Lane.{Lane}
use Rattle.key_tables.specs.Lanes.{has_lane}
use Rattle.judge_rules.specs.Checks.{kept_by, is_good}
use Rattle.judge_rules.specs.declared.verdict.Verdict.{Verdict}
use Rattle.seq_store.specs.Runs.{Raise, Mark, after_raises}
use Rattle.node_core.specs.declared.outcome.Act.{Act}
use Rattle.node_core.specs.declared.outcome.Act.TheVariants as act
use Rattle.node_core.specs.declared.outcome.Outcome.{Outcome}
use Rattle.node_core.specs.declared.outcome.Outcome.TheVariants as outcome
use Rattle.node_core.specs.Receiving.{addressee, receive_transition}
use Rattle.node_core.specs.Standing.{ConfigState, Standing, place_in}
use Rattle.node_core.specs.Transition.{Transition}

-- The numbers afterwards are those that the raises leave.
abbrev pub LeavesRaised : {A : Type 0} → Transition A → Standing → Type 0
LeavesRaised t s = t.after.numbers ≡ after_raises t.raises s.numbers

-- A number that is kept of a telegram for the node is kept on one of its lanes.
abbrev pub KeepsOnLanes : ConfigState → Type 0
KeepsOnLanes c =
    (t : Telegram) (mark : ℕ) (asked : Option (List ℕ)) (kept : Lane × ℕ)
    → is_some (addressee c t) ≡ true → kept_by c.rows mark asked t ≡ Some kept → has_lane c.lanes kept.0 ≡ true

-- The mark of this lane, which is one of the node's, is below this number, and is raised to it before all else.
pub record IsRaisedFirst (c : ConfigState) (s : Standing) (t : Transition Outcome) (lane : Lane)
    (number : ℕ) : Type 0 where
  pub place : ℕ
  pub place_is : place_in c lane ≡ Some place
  pub above : slice_index s.numbers.marks place < number
  pub others : List Raise
  pub raises_are : t.raises ≡ Mark place number ∷ others

-- What a node acts on is above the mark of its lane, and that mark is raised first.
abbrev pub RaisesBeforeActing : ConfigState → Type 0
RaisesBeforeActing c =
    (s : Standing) (octets : List ℕ) (number : ℕ) (lane : Lane) (does : Act)
    → (receive_transition c s octets).outcome ≡ outcome.Acted number lane does
    → IsRaisedFirst c s (receive_transition c s octets) lane number

-- ---- what an outcome tells

-- the octets are a frame that is neither for the node nor for one of its objects
abbrev pub IsForOthers : ConfigState → List ℕ → Type 0
IsForOthers c octets = (frame_fault octets ≡ None) × (addressee c (frame_at octets) ≡ None)

-- the verdict that an outcome refuses
abbrev pub refusal_in : Outcome → Option Verdict
refusal_in (outcome.Refused verdict) = Some verdict
refusal_in _ = None

-- the reply that an outcome tells of, the number of one or none
abbrev pub reply_in : Outcome → Option (Option ℕ)
reply_in (outcome.Acted _ _ (act.Read _ reply)) = Some reply
reply_in (outcome.Answered _ reply) = Some reply
reply_in _ = None

-- Of a frame that a node received with this next number. Ignored is exactly what is for others, only what fails a check
-- or an object does not take is refused, and a reply is missing exactly where all numbers are drawn.
pub record HasItsCause (c : ConfigState) (next : ℕ) (octets : List ℕ) (told : Outcome) : Type 0 where
  pub ignored : (told ≡ outcome.Ignored) ↔ IsForOthers c octets
  pub refused : IfSome (refusal_in told) (λ verdict. is_good verdict ≡ false)
  pub reply : IfSome (reply_in told) (λ reply. (reply ≡ None) ↔ (next ≡ 2 ^ 48))
