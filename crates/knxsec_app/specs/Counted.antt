-- Statement: where a fault was counted, by the status that was answered.
use Rattle.std.specs.Prelude.{◌≡◌, ◌≢◌, ℕ, ◌≤◌}
use Rattle.knx_base.specs.Faults.{Rose}
use Rattle.knx_base.specs.Files.{Seen}
use Rattle.knxsec_app.specs.declared.status.Status.{Status}
use Rattle.knxsec_app.specs.declared.status.Status.TheVariants.{ReadFault, WriteFault}

-- A fault of reading or of writing is answered only where its count rose, and neither count falls. The files' count
-- rises only where a fault of reading is answered, and the sink's only where one of the two is: all else was answered
-- without a fault.
pub record IsCounted (seen later_seen : Seen) (before now : ℕ) (status : Status) : Type 0 where
  pub read_fault : status ≡ ReadFault → Rose seen.faults later_seen.faults
  pub write_fault : status ≡ WriteFault → Rose before now
  pub files_kept : status ≢ ReadFault → later_seen.faults ≡ seen.faults
  pub kept : status ≢ ReadFault → status ≢ WriteFault → now ≡ before
  pub files_later : seen.faults ≤ later_seen.faults
  pub later : before ≤ now
