-- Plumbing: what a reader of records has read ahead. Its field is private: a contract sees what is left by it alone.
use Rattle.std.specs.Prelude.{List, ℕ, ◌++◌}
use Rattle.std.specs.Coded.{Coded, code_by, codes}
use Rattle.frame_file.specs.Lists.{RecordList}
use Rattle.frame_file.specs.Reader.{ReaderState, left_ahead}
use mathlib.Core.Path.{refl}

pub record Ahead : Type 0 where
  reader : ReaderState

abbrev pub ahead_of : ReaderState → Ahead
ahead_of reader = record { reader = reader }

-- the records that are left where these octets of the file are still to be read
abbrev pub left_by : Ahead → List ℕ → RecordList
left_by ahead unread = left_ahead ahead.reader.stage ahead.reader (ahead.reader.held ++ unread)

pub reader_code : Coded ReaderState
reader_code = hlevel (codes)

abbrev pub ahead_code : Coded Ahead
ahead_code = code_by ReaderState reader_code (λ ahead. ahead.reader) ahead_of (λ _. refl)
