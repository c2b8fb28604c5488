-- Statement: the audit of a list of records: what stands in the line of each, by the records before it. The latest of
-- those comes first.
use Rattle.std.specs.Prelude.{ℕ, ◌+◌, ◌==◌, ◌&&◌, max, if◌then◌else◌, List, [], ◌∷◌, length, map, find, Bool, true, false, Option, Some, None, Result, Ok, Err}
use Rattle.std.specs.List.{filter}
use Rattle.std.specs.Option.{option_and_then}
use Rattle.knx_base.specs.declared.address.IndAddr.{IndAddr}
use Rattle.cemi_frames.specs.Frames.{Telegram}
use Rattle.cemi_frames.specs.Faults.{frame_fault}
use Rattle.cemi_frames.specs.Reading.{frame_at}
use Rattle.cemi_frames.specs.declared.frame.NotFrame.{NotFrame}
use Rattle.key_tables.specs.declared.types.Lane.{Lane}
use Rattle.key_tables.specs.declared.types.Row.{Row}
use Rattle.key_tables.specs.Lanes.{same_lane}
use Rattle.judge_rules.specs.declared.verdict.Verdict.{Verdict}
use Rattle.judge_rules.specs.declared.verdict.Verdict.TheVariants as verdict
use Rattle.judge_rules.specs.Parts.{is_group, source_of}
use Rattle.judge_rules.specs.Checks.{lane_in, verdict_of, kept_by, opened_by, is_alarm, Kept}
use Rattle.sync_service.specs.Open.{Asked}
use Rattle.audit_core.specs.declared.line.Addresses.{Addresses}
use Rattle.audit_core.specs.declared.line.Line.{Line}

-- ---- marks

-- numbers that were kept, each on its lane
abbrev pub AllKept : Type 0
AllKept = List (Lane × ℕ)

-- the greatest number that was kept on a lane, or 0
abbrev pub greatest_on : AllKept → Lane → ℕ
greatest_on [] lane = 0
greatest_on (kept ∷ others) lane = max (if same_lane kept.0 lane then kept.1 else 0) (greatest_on others lane)

-- the mark of a telegram with this lane or none
abbrev pub mark_under : (Lane → ℕ) → Option Lane → ℕ
mark_under marks None = 0
mark_under marks (Some lane) = marks lane

-- ---- one record

-- the telegram of a record, or why it is none
abbrev pub unless_fault : Option NotFrame → Telegram → Result Telegram NotFrame
unless_fault None t = Ok t
unless_fault (Some fault) t = Err fault

abbrev pub telegram_in : List ℕ → Result Telegram NotFrame
telegram_in octets = unless_fault (frame_fault octets) (frame_at octets)

abbrev pub receiver_of : Telegram → IndAddr
receiver_of t = record { 0 = t.destination }

-- the challenge that the receiver of a telegram asked of its source
abbrev pub asked_under : Asked → Telegram → Option (List ℕ)
asked_under asked t = asked (receiver_of t) (source_of t)

-- what is kept of a record, under these marks and challenges
abbrev pub kept_of : List Row → (Lane → ℕ) → Asked → Result Telegram NotFrame → Kept
kept_of rows marks asked (Ok t) = kept_by rows (mark_under marks (lane_in rows t)) (asked_under asked t) t
kept_of rows marks asked (Err fault) = None

-- the APDU that a record opens to, and no octets where it doesn't
abbrev pub opened_of : List Row → Asked → Result Telegram NotFrame → List ℕ
opened_of rows asked (Ok t) = opened_by rows (asked_under asked t) t
opened_of rows asked (Err fault) = []

-- the line of a telegram with this verdict
abbrev pub telegram_line : List Row → ℕ → Telegram → Verdict → Line
telegram_line rows index t said = record {
  index = index;
  addresses = Some (record { source = source_of t; group = is_group t; destination = t.destination });
  repeated = t.repeated;
  verdict = said;
  alarm = is_alarm rows t said;
}

-- the line of a record with this number, under these marks and challenges
abbrev pub line_under : List Row → ℕ → (Lane → ℕ) → Asked → Result Telegram NotFrame → Line
line_under rows index marks asked (Ok t) =
    telegram_line rows index t (verdict_of rows (mark_under marks (lane_in rows t)) (asked_under asked t) t)
line_under rows index marks asked (Err fault) =
    record { index = index; addresses = None; repeated = false; verdict = verdict.NotFrame fault; alarm = false }

-- ---- what records left behind, of which the latest comes first

-- what an audit makes of a record: its line, and what is kept of it
pub record Judged : Type 0 where
  pub line : Line
  pub kept : Kept

abbrev pub with_kept : Kept → AllKept → AllKept
with_kept None before = before
with_kept (Some kept) before = kept ∷ before

abbrev pub all_kept : List Judged → AllKept
all_kept [] = []
all_kept (judged ∷ before) = with_kept judged.kept (all_kept before)

abbrev pub all_lines : List Judged → List Line
all_lines before = map (λ judged. judged.line) before

-- a telegram goes from the one device to the other
abbrev pub goes : IndAddr → IndAddr → Option Addresses → Bool
goes source destination None = false
goes source destination (Some found) = found.source.0 == source.0 && found.destination == destination.0

-- a request that was granted goes from the requester to the responder, or an answer that was taken the other way
abbrev pub is_exchange : IndAddr → IndAddr → Verdict → Option Addresses → Bool
is_exchange requester responder (verdict.SyncAsk _ _) addresses = goes requester responder addresses
is_exchange requester responder (verdict.SyncAnswer _ _) addresses = goes responder requester addresses
is_exchange requester responder _ addresses = false

abbrev pub challenge_in : Verdict → Option (List ℕ)
challenge_in (verdict.SyncAsk _ challenge) = Some challenge
challenge_in _ = None

-- the challenge of the requester's last request to the responder, unless an answer to it came after
abbrev pub last_asked : List Line → Asked
last_asked lines requester responder =
    option_and_then (λ line. challenge_in line.verdict) (find
    (λ line. is_exchange requester responder line.verdict line.addresses) lines)

-- ---- a list of records

-- a record with this number after these, of which this was made
abbrev pub judged_after : List Row → List Judged → ℕ → Result Telegram NotFrame → Judged
judged_after rows before index r = record {
  line = line_under rows index (greatest_on (all_kept before)) (last_asked (all_lines before)) r;
  kept = kept_of rows (greatest_on (all_kept before)) (last_asked (all_lines before)) r;
}

-- what is made of these records
unfoldable pub judged_of : List Row → List (List ℕ) → List Judged
judged_of rows [] = []
judged_of rows (octets ∷ past) =
    judged_after rows (judged_of rows past) (length past + 1) (telegram_in octets) ∷ judged_of rows past

-- the lines of these records
abbrev pub lines_of : List Row → List (List ℕ) → List Line
lines_of rows past = all_lines (judged_of rows past)

-- the mark of a lane after these records: the greatest number that one of them left on it, or 0
abbrev pub audit_mark : List Row → List (List ℕ) → Lane → ℕ
audit_mark rows past = greatest_on (all_kept (judged_of rows past))

-- the challenge that is open between two devices after these records
abbrev pub audit_asked : List Row → List (List ℕ) → Asked
audit_asked rows past = last_asked (lines_of rows past)

-- the line of a record after these
abbrev pub line_of : List Row → List (List ℕ) → List ℕ → Line
line_of rows past octets =
    line_under rows (length past + 1) (audit_mark rows past) (audit_asked rows past) (telegram_in octets)

-- the APDU that a record after these opens to, and no octets where it doesn't
abbrev pub apdu_of : List Row → List (List ℕ) → List ℕ → List ℕ
apdu_of rows past octets = opened_of rows (audit_asked rows past) (telegram_in octets)

-- ---- the total

abbrev pub accepts : Verdict → Bool
accepts (verdict.Accepted _ _) = true
accepts _ = false

abbrev pub synchronises : Verdict → Bool
synchronises (verdict.SyncAsk _ _) = true
synchronises (verdict.SyncAnswer _ _) = true
synchronises _ = false

abbrev pub is_accepted : Line → Bool
is_accepted line = accepts line.verdict

abbrev pub is_sync : Line → Bool
is_sync line = synchronises line.verdict

abbrev pub has_alarm : Line → Bool
has_alarm line = line.alarm

abbrev pub count : (Line → Bool) → List Line → ℕ
count is_such lines = length (filter is_such lines)

-- how many records there are, and how many of their lines are accepted, of a synchronisation, and alarms
pub record Total : Type 0 where
  pub records : ℕ
  pub accepted : ℕ
  pub synchronised : ℕ
  pub alarms : ℕ

-- the total of these records
abbrev pub total_of : List Row → List (List ℕ) → Total
total_of rows past = record {
  records = length past;
  accepted = count is_accepted (lines_of rows past);
  synchronised = count is_sync (lines_of rows past);
  alarms = count has_alarm (lines_of rows past);
}
