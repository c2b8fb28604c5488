-- Telegrams that pass every check of a node. This is statement.
use Rattle.std.specs.Prelude.{◌≡◌, ℕ, List, slice_get, Some, None, Ok}
use Rattle.cemi_frames.specs.Faults.{frame_fault}
use Rattle.cemi_frames.specs.Reading.{frame_at}
use Rattle.plain_apdu.specs.declared.service.Service.{Service}
use Rattle.key_tables.specs.declared.types.Lane.{Lane}
use Rattle.judge_rules.specs.Checks.{lane_in, verdict_of, opened_by}
use Rattle.judge_rules.specs.Parts.{source_of}
use Rattle.judge_rules.specs.declared.verdict.Verdict.TheVariants as verdict
use Rattle.group_objects.specs.declared.row.ObjectRow.{ObjectRow}
use Rattle.group_objects.specs.declared.row.Effect.{Effect}
use Rattle.group_objects.specs.Effects.{accepted}
use Rattle.sync_service.specs.Open.{asked_of}
use Rattle.node_core.specs.declared.outcome.Addressee.{Addressee}
use Rattle.node_core.specs.declared.outcome.Addressee.TheVariants.{Device, Object}
use Rattle.node_core.specs.Receiving.{addressee}
use Rattle.node_core.specs.Standing.{ConfigState, Standing, place_in, mark_at}

-- The object is there, and it takes the APDU: its flags let it, and the value has its size.
pub record TakesApdu (c : ConfigState) (object : ℕ) (apdu : List ℕ) : Type 0 where
  pub row : ObjectRow
  pub row_is : slice_get c.objects object ≡ Some row
  pub effect : Effect
  pub takes : accepted row apdu ≡ Ok effect

-- the device takes each APDU that is accepted
abbrev pub Takes : ConfigState → Addressee → List ℕ → Type 0
Takes c Device apdu = Unit {0}
Takes c (Object object) apdu = TakesApdu c object apdu

-- The octets are a frame for the node, data of this lane. The verdict is that it is accepted under this number: it
-- verifies under the key of its channel, and its sender may do this. What it is for takes its APDU.
pub record PassesChecks (c : ConfigState) (s : Standing) (octets : List ℕ) (number : ℕ) (lane : Lane) : Type 0 where
  pub to : Addressee
  pub service : Service
  pub is_frame : frame_fault octets ≡ None
  pub is_for : addressee c (frame_at octets) ≡ Some to
  pub lane_is : lane_in c.rows (frame_at octets) ≡ Some lane
  pub passes : verdict_of c.rows (mark_at s.numbers.marks (place_in c lane))
      (asked_of s.pending (source_of (frame_at octets))) (frame_at octets)
      ≡ verdict.Accepted number service
  pub taken : Takes c to (opened_by c.rows (asked_of s.pending (source_of (frame_at octets))) (frame_at octets))
