-- Statement: the answers of a call for the next record, and the state that its value ends as, since the record is
-- borrowed from it.
use Rattle.std.specs.Prelude.{Option, Some, None, Result, Ok, Err, ⊤}
use Rattle.std.specs.Borrow.{follows_so, MutBor, Fml}
use mathlib.Core.Option.{none}
use Rattle.knx_base.specs.Files.{Seen}
use Rattle.frame_file.specs.Next.{RecordsState, TakesRecord, Ends, Fails}
use Rattle.frame_file.specs.declared.fault.RecordFault.{RecordFault}
use Rattle.frame_file.specs.declared.records.Record.{Record}
use Rattle.frame_file.specs.contracts.records.Records.{the_row}

abbrev pub Gives : Seen → Seen → RecordsState → RecordsState → Result (Option Record) RecordFault → Type 0
Gives seen later old new (Ok (Some found)) =
    TakesRecord seen later old new found.number (record { time = found.time; octets = found.octets.now })
Gives seen later old new (Ok None) = Ends seen later old new
Gives seen later old new (Err fault) = Fails seen later old new fault

-- this holds of the value at the end of the borrow
abbrev pub EndsSo : MutBor RecordsState → (RecordsState → Type 0) → Fml
EndsSo records P = follows_so the_row the_row records.ghost_name none (λ _ _. ⊤) P
