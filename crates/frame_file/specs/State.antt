-- Plumbing: what a reader of records knows, and what of it a contract sees.
use Rattle.std.specs.Prelude.{◌≡◌, ℕ, ◌+◌, ◌≤◌, [], length, Bool, true, false, Option, IfSome}
use Rattle.std.specs.Coded.{Coded, code_by, coded×, codes}
use Rattle.frame_file.specs.Ahead.{Ahead, ahead_of, ahead_code}
use Rattle.frame_file.specs.Lists.{Entry, IsOfText}
use Rattle.frame_file.specs.Logs.{most_logged}
use Rattle.frame_file.specs.Next.{RecordsState}
use Rattle.frame_file.specs.Reader.{ReaderState}
use Rattle.frame_file.specs.declared.fault.RecordFault.{RecordFault}
use Rattle.frame_file.specs.declared.reader.Reader.{Reader}
use Rattle.frame_file.specs.declared.stage.Stage.{Stage}
use Rattle.frame_file.specs.declared.stage.Stage.TheVariants.{Start, Lines, Log}
use mathlib.Core.Path.{refl}

abbrev pub state_of : Reader → ReaderState
state_of reader = record {
  stage = reader.stage;
  lines = reader.lines;
  given = reader.given;
  held = reader.source;
  record_ = record { time = reader.time; octets = reader.octets };
}

abbrev pub has_begun : Stage → Bool
has_begun Start = false
has_begun Lines = true
has_begun (Log list) = true

abbrev pub reads_log : Stage → Bool
reads_log Start = false
reads_log Lines = false
reads_log (Log list) = true

abbrev pub shown : Option RecordFault → ReaderState → RecordsState
shown fault state = record {
  fault = fault;
  given = state.given;
  last = state.record_;
  begun = has_begun state.stage;
  log = reads_log state.stage;
  read = state.lines + length state.held;
  ahead = ahead_of state;
}

-- Before the first octet nothing was given. The records of a log are no more than its octets may be.
abbrev pub StandsAt : ReaderState → Stage → Type 0
StandsAt state Start = (state.given ≡ 0) × (state.held ≡ [])
StandsAt state Lines = Unit {0}
StandsAt state (Log list) = (state.given + length list.records ≤ most_logged) × IfSome list.refused IsOfText

abbrev pub Stands : ReaderState → Type 0
Stands state = StandsAt state state.stage

-- ---- how a state is stored: a pair of what is seen and of what is ahead

abbrev Plain : Type 0
Plain = Option RecordFault × ℕ × Entry × Bool × Bool × ℕ

pub plain_code : Coded (Option RecordFault × ℕ × Entry × Bool × Bool × ℕ)
plain_code = hlevel (codes)

abbrev parts_of : RecordsState → Plain × Ahead
parts_of state = ((state.fault, state.given, state.last, state.begun, state.log, state.read), state.ahead)

abbrev of_parts : Plain × Ahead → RecordsState
of_parts ((fault, given, last, begun, log, read), ahead) = record {
  fault = fault;
  given = given;
  last = last;
  begun = begun;
  log = log;
  read = read;
  ahead = ahead;
}

abbrev pub records_code : Coded RecordsState
records_code = code_by (Plain × Ahead) (coded× plain_code ahead_code) parts_of of_parts (λ _. refl)
