-- Statement: the numbers with which a process ends, and what standard error is told.
use Rattle.std.specs.Prelude.{ℕ, List, codes, Option, Some, None}
use Rattle.knxsec_app.specs.declared.status.Status.{Status}
use Rattle.knxsec_app.specs.declared.status.Status.TheVariants.{Done, Alarm, Usage, Refused, ReadFault, WriteFault, NoMemory}

abbrev pub number_of : Status → ℕ
number_of Done = 0
number_of Alarm = 1
number_of Usage = 2
number_of Refused = 3
number_of ReadFault = 4
number_of WriteFault = 5
number_of NoMemory = 6

-- the number with which the process ends; where its words cannot be had there is no status
abbrev pub exit_number : Option Status → ℕ
exit_number None = 7
exit_number (Some status) = number_of status

-- why the report is not whole, where it is not
abbrev pub fault_text_of : Option Status → Option (List ℕ)
fault_text_of None = Some (codes "no words")
fault_text_of (Some ReadFault) = Some (codes "read fault")
fault_text_of (Some WriteFault) = Some (codes "write fault")
fault_text_of (Some NoMemory) = Some (codes "no memory")
fault_text_of (Some _) = None
