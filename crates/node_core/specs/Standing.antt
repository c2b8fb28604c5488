-- Statement: what a node is, with no memory in it: what never changes of it, and what its calls change.
use Rattle.std.specs.Prelude.{ℕ, ◌+◌, List, slice_index, slice_set, position, Option, Some, None}
use Rattle.knx_base.specs.declared.address.IndAddr.{IndAddr}
use Rattle.key_tables.specs.declared.types.Lane.{Lane}
use Rattle.key_tables.specs.declared.types.Row.{Row}
use Rattle.key_tables.specs.Lanes.{same_lane}
use Rattle.seq_store.specs.Runs.{Numbers, Raise, after_raises, draw_raises}
use Rattle.group_objects.specs.declared.row.ObjectRow.{ObjectRow}
use Rattle.group_objects.specs.Value.{ObjectValue}
use Rattle.group_objects.specs.Objects.{first_values}
use Rattle.sync_service.specs.Open.{Pending}

-- what never changes
pub record ConfigState : Type 0 where
  pub address : IndAddr
  pub rows : List Row
  pub objects : List ObjectRow
  pub lanes : List Lane

-- the last reserved number and the marks, the next number, the challenge that is open, and the values of the objects
pub record Standing : Type 0 where
  pub numbers : Numbers
  pub next : ℕ
  pub pending : Pending
  pub values : List ObjectValue

-- right after a start over a memory that restores these numbers
abbrev pub started : ConfigState → Numbers → Standing
started c numbers = record {
  numbers = numbers;
  next = numbers.reserved + 1;
  pending = None;
  values = first_values c.objects;
}

-- after these raises
abbrev pub raised : List Raise → Standing → Standing
raised raises s = record s { numbers = after_raises raises s.numbers }

-- after its next number was drawn
abbrev pub drawn : Standing → Standing
drawn s = record s { numbers = after_raises (draw_raises s.numbers.reserved s.next) s.numbers; next = s.next + 1 }

abbrev pub with_value : ℕ → ObjectValue → Standing → Standing
with_value object value s = record s { values = slice_set s.values object value }

-- where the mark of a lane stands
abbrev pub place_in : ConfigState → Lane → Option ℕ
place_in c lane = position (same_lane lane) c.lanes

-- the mark at a place, 0 where there is none
abbrev pub mark_at : List ℕ → Option ℕ → ℕ
mark_at marks (Some place) = slice_index marks place
mark_at marks None = 0
