-- The numbers of a node that runs, by its steps since its last start. This is statement.
use Rattle.std.specs.Prelude.{◌≡◌, ℕ, ◌+◌, ◌==◌, max, List, [], ◌∷◌, ◌++◌, length, slice_index, Option, Some, None, if◌then◌else◌}
use Rattle.cemi_frames.specs.Faults.{frame_fault}
use Rattle.cemi_frames.specs.Frames.{Telegram}
use Rattle.cemi_frames.specs.Reading.{frame_at}
use Rattle.cemi_frames.specs.declared.frame.NotFrame.{NotFrame}
use Rattle.key_tables.specs.declared.types.Lane.{Lane}
use Rattle.judge_rules.specs.Checks.{Kept, lane_in, kept_by}
use Rattle.judge_rules.specs.Parts.{source_of}
use Rattle.seq_store.specs.Runs.{numbers_in}
use Rattle.sync_service.specs.Open.{asked_of}
use Rattle.node_core.specs.declared.outcome.Addressee.{Addressee}
use Rattle.node_core.specs.Receiving.{addressee}
use Rattle.node_core.specs.Standing.{ConfigState, Standing, place_in, mark_at}
use Rattle.script_text.specs.declared.event.Event.{Event}
use Rattle.script_text.specs.declared.event.Event.TheVariants as event
use Rattle.script_text.specs.declared.node_row.NodeRow.{NodeRow}
use Rattle.step_text.specs.declared.outcome.StepOutcome.{StepOutcome}
use Rattle.step_text.specs.declared.outcome.StepOutcome.TheVariants as outcome
use Rattle.install_run.specs.Machine.{TelegramAt, WorldAt, has_telegram, telegram_in, heard, node_in}
use Rattle.install_run.specs.Marks.{marks_by}
use Rattle.install_run.specs.Runs.{place_of, is_at, after, step_of}
use Rattle.install_run.specs.Turn.{NodeAt}

-- the greatest of some numbers, and 0 of none
abbrev pub greatest : List ℕ → ℕ
greatest [] = 0
greatest (n ∷ ns) = max n (greatest ns)

-- ---- what is kept on the lane whose mark stands at this place

abbrev pub kept_at : ℕ → Option ℕ → Kept → List ℕ
kept_at lane (Some its) (Some kept) = if lane == its then kept.1 ∷ [] else []
kept_at lane _ _ = []

-- of a telegram of a lane, by the standing before
abbrev pub kept_from : ℕ → ConfigState → Standing → Telegram → Option Lane → List ℕ
kept_from lane c s t None = []
kept_from lane c s t (Some its) =
    kept_at lane (place_in c its)
    (kept_by c.rows (mark_at s.numbers.marks (place_in c its)) (asked_of s.pending (source_of t)) t)

-- none of what is for others
abbrev pub kept_for : ℕ → ConfigState → Standing → Telegram → Option Addressee → List ℕ
kept_for lane c s t None = []
kept_for lane c s t (Some to) = kept_from lane c s t (lane_in c.rows t)

-- none of what is no frame
abbrev pub kept_frame : ℕ → ConfigState → Standing → Telegram → Option NotFrame → List ℕ
kept_frame lane c s t (Some fault) = []
kept_frame lane c s t None = kept_for lane c s t (addressee c t)

-- none of a telegram that is gone
abbrev pub kept_heard : ℕ → ConfigState → Standing → Option (List ℕ) → List ℕ
kept_heard lane c s None = []
kept_heard lane c s (Some octets) = kept_frame lane c s (frame_at octets) (frame_fault octets)

-- by a delivery alone
abbrev pub kept_in : ℕ → Event → List TelegramAt → ConfigState → Standing → List ℕ
kept_in lane (event.Deliver telegram node) air c s = kept_heard lane c s (heard (telegram_in air telegram))
kept_in lane _ air c s = []

-- ---- what moves the next number

-- one more than the number that was drawn, and than the kept one that an answer told
abbrev pub next_told : ℕ → StepOutcome → List ℕ
next_told next (outcome.Synced number kept then_next) = (kept + 1) ∷ []
next_told next said = if has_telegram said then (next + 1) ∷ [] else []

-- ---- since the last start

-- A step adds its numbers, the latest first. Where the node did not run before it, they begin anew with what its memory
-- restores, and so does a start.
abbrev pub with_marks : ℕ → Event → List TelegramAt → NodeAt → StepOutcome → Option Standing → List ℕ → List ℕ
with_marks lane e air n said None numbers = slice_index (marks_by n None) lane ∷ []
with_marks lane e air n said (Some s) numbers = kept_in lane e air n.config s ++ numbers

abbrev pub with_next : Event → List TelegramAt → NodeAt → StepOutcome → Option Standing → List ℕ → List ℕ
with_next e air n said None numbers = ((numbers_in (length n.config.lanes) n.octets).reserved + 1) ∷ []
with_next e air n said (Some s) numbers = next_told s.next said ++ numbers

-- the numbers that count for the node at this place after these events
abbrev pub since : (Event → List TelegramAt → NodeAt → StepOutcome → Option Standing → List ℕ → List ℕ) → ℕ
    → List Event → WorldAt → List ℕ → List ℕ
since adds place [] w numbers = numbers
since adds place (e ∷ events) w numbers =
    let n = node_in w place in
    since adds place events (after e w)
    (if is_at place (place_of e) then adds e w.air n (step_of e w).outcome n.standing numbers else numbers)

-- Where the node of this row runs, each mark is the greatest of the one that its last start restored and of the numbers
-- that were kept on its lane since; and its next number is the greatest of one more than the recorded one, than each
-- number drawn since, and than each kept one that an answer told since. Before any start they are those of the script.
pub record HasNumbersSince (place : ℕ) (row : NodeRow) (events : List Event) (first now : WorldAt) : Type 0 where
  pub marks : (s : Standing) (lane : ℕ) → (node_in now place).standing ≡ Some s
      → slice_index s.numbers.marks lane
      ≡ greatest (since (with_marks lane) place events first (slice_index row.marks lane ∷ []))
  pub next : (s : Standing) → (node_in now place).standing ≡ Some s
      → s.next ≡ greatest (since with_next place events first (row.next ∷ []))
