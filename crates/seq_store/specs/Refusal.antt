-- Statement: what the answers of a store say of its memory.
use Rattle.std.specs.Prelude.{Bool, true, false, Option, None, Some, Result, Ok, Err}
use Rattle.nvm_model.specs.declared.fault.NvmFault.{NvmFault}
use Rattle.seq_store.specs.declared.fault.StoreFault.{StoreFault}
use Rattle.seq_store.specs.declared.fault.StoreFault.TheVariants.{Unformatted, Memory, NoMemory}
use Rattle.seq_store.specs.declared.fault.StoreRefused.{StoreRefused}
use Rattle.seq_store.specs.declared.fault.DrawFault.{DrawFault}
use Rattle.seq_store.specs.declared.fault.DrawFault.TheVariants.{Exhausted, Memory as MemoryAtDraw}

-- the fault of the memory that a refusal hands on
abbrev pub read_fault : StoreFault → Option NvmFault
read_fault (Unformatted _) = None
read_fault (Memory fault) = Some fault
read_fault NoMemory = None

abbrev pub reading_fault : {T : Type 0} → Result T StoreFault → Option NvmFault
reading_fault (Ok _) = None
reading_fault (Err fault) = read_fault fault

-- why a store was not started, if it was not
abbrev pub refusal_of : {S M : Type 0} → Result S (StoreRefused M) → Option StoreFault
refusal_of (Ok _) = None
refusal_of (Err refused) = Some refused.fault

-- No read was refused, and there was memory.
abbrev pub has_read : Option StoreFault → Bool
has_read None = true
has_read (Some (Unformatted _)) = true
has_read (Some (Memory _)) = false
has_read (Some NoMemory) = false

-- the fault of the memory that a draw hands on
abbrev pub draw_fault : {T : Type 0} → Result T DrawFault → Option NvmFault
draw_fault (Ok _) = None
draw_fault (Err Exhausted) = None
draw_fault (Err (MemoryAtDraw fault)) = Some fault
