-- Statement: which configurations a node may have.
use Rattle.std.specs.Prelude.{◌≡◌, ℕ, nat_lt, if◌then◌else◌, List, [], ◌++◌, length, map, position, Bool, true, false, Option, Some, None, option_map}
use Rattle.std.specs.Option.{option_or}
use Rattle.knx_base.specs.declared.address.IndAddr.{IndAddr}
use Rattle.knx_base.specs.declared.address.GroupAddr.{GroupAddr}
use Rattle.key_tables.specs.declared.types.Row.{Row}
use Rattle.key_tables.specs.Build.{build_fault}
use Rattle.key_tables.specs.Lanes.{is_any, lanes_of}
use Rattle.seq_store.specs.Layout.{most_lanes}
use Rattle.group_objects.specs.declared.row.ObjectRow.{ObjectRow}
use Rattle.group_objects.specs.Objects.{objects_fault}
use Rattle.node_core.specs.declared.fault.ConfigFault.{ConfigFault}
use Rattle.node_core.specs.declared.fault.ConfigFault.TheVariants.{Any, Rows, Objects, Lanes, NoMemory}
use Rattle.node_core.specs.Standing.{ConfigState}

abbrev pub groups_of : List ObjectRow → List GroupAddr
groups_of objects = map (λ object. object.group) objects

-- the device of this address among these rows, with these objects
abbrev pub configured : IndAddr → List Row → List ObjectRow → ConfigState
configured address rows objects = record {
  address = address;
  rows = rows;
  objects = objects;
  lanes = lanes_of rows address (groups_of objects);
}

abbrev pub lanes_fault : ℕ → Option ConfigFault
lanes_fault lanes = if nat_lt most_lanes lanes then Some (Lanes lanes) else None

-- the first reason why there is no such configuration: a role row of any sender, rows or objects that may not stand,
-- or more lanes than a memory keeps marks for
abbrev pub config_fault : ConfigState → Option ConfigFault
config_fault c =
    option_or (option_map Any (position is_any c.rows))
    (option_or (option_map Rows (build_fault c.rows))
    (option_or (option_map Objects (objects_fault c.objects))
    (lanes_fault (length c.lanes))))

-- it is this fault, or memory was wanting
abbrev pub IsConfigFault : ConfigFault → Option ConfigFault → Type 0
IsConfigFault NoMemory found = Unit {0}
IsConfigFault fault found = found ≡ Some fault
