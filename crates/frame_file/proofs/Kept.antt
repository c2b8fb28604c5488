-- No fault of the files is counted but by an answer of such a fault.
use Rattle.std.proofs.Common.{◌≡◌, ◌≢◌, Bool, true, false, Result, Ok, Err, ap}
use Rattle.knx_base.specs.Files.{Seen}
use Rattle.frame_file.specs.Reader.{ReaderState, Advances}
use Rattle.frame_file.specs.declared.fault.RecordFault.{RecordFault}
use Rattle.frame_file.specs.declared.fault.RecordFault.TheVariants.{ReadFault}

pub advances_kept : (seen later : Seen) (old new : ReaderState) (result : Result Bool RecordFault)
    → Advances seen later old new result → result ≢ Err ReadFault
    → later.faults ≡ seen.faults
advances_kept seen later old new (Ok true) gives other = gives.goes.no_fault
advances_kept seen later old new (Ok false) ends other = ends.goes.no_fault
advances_kept seen later old new (Err why) fails other = (fails.1.goes (λ e. other (ap Err e))).no_fault
