-- The objects of a device: which lists of rows are objects, what each holds, and what may be set. This is statement.
use Rattle.std.specs.Prelude.{◌≡◌, ℕ, ◌==◌, nat_lt, Bool, true, false, if◌then◌else◌, List, [], ◌∷◌, ◌++◌, length, map, take, slice_get, slice_set, position, AllPairs, Option, Some, None, option_map}
use Rattle.std.specs.List.{list_any}
use Rattle.knx_base.specs.declared.address.GroupAddr.{GroupAddr}
use Rattle.group_objects.specs.declared.row.ObjectRow.{ObjectRow}
use Rattle.group_objects.specs.declared.objects.ObjectsFault.{ObjectsFault}
use Rattle.group_objects.specs.declared.objects.ObjectsFault.TheVariants as fault
use Rattle.group_objects.specs.declared.objects.SetFault.{SetFault}
use Rattle.group_objects.specs.declared.objects.SetFault.TheVariants as refusal
use Rattle.group_objects.specs.Value.{ObjectValue, same_form}

-- the rows, and what their objects hold now
pub record ObjectsState : Type 0 where
  pub rows : List ObjectRow
  pub values : List ObjectValue

abbrev pub first_values : List ObjectRow → List ObjectValue
first_values rows = map (λ row. row.value) rows

-- the kind of a value, and the number of its octets
abbrev pub form_of : ObjectValue → Bool × ℕ
form_of value = (value.is_bits, length value.octets)

-- each object holds a value of the form of its row's
abbrev pub KeepsForms : ObjectsState → Type 0
KeepsForms objects = map form_of objects.values ≡ map form_of (first_values objects.rows)

abbrev pub is_of : GroupAddr → ObjectRow → Bool
is_of group row = row.group.0 == group.0

-- where the object of a group stands
abbrev pub place_of : GroupAddr → List ObjectRow → Option ℕ
place_of group rows = position (is_of group) rows

-- ---- building

abbrev pub most_rows : ℕ
most_rows = 64

-- the first of these rows whose group stood before, which come after others
abbrev pub first_twice : List ObjectRow → List ObjectRow → Option ℕ
first_twice before [] = None
first_twice before (row ∷ rows) =
    if list_any (is_of row.group) before then Some (length before) else first_twice (before ++ row ∷ []) rows

abbrev pub objects_fault : List ObjectRow → Option ObjectsFault
objects_fault rows =
    if nat_lt most_rows (length rows) then Some fault.TooMany else option_map fault.Twice (first_twice [] rows)

-- no two rows are of one group
abbrev pub NoneTwice : List ObjectRow → Type 0
NoneTwice rows = AllPairs (λ row later. is_of later.group row ≡ false) rows

-- the row at this place is of the group of one before it, and among those before it no two are of one group
pub record IsFirstTwice (rows : List ObjectRow) (place : ℕ) : Type 0 where
  pub row : ObjectRow
  pub there : slice_get rows place ≡ Some row
  pub again : list_any (is_of row.group) (take place rows) ≡ true
  pub none_before : NoneTwice (take place rows)

-- ---- setting

-- why a value is not set: there is no such object, or the one that is there holds a value of another form
abbrev pub set_refusal : Option ObjectValue → ObjectValue → Option SetFault
set_refusal None value = Some refusal.NoObject
set_refusal (Some held) value = if same_form value held then None else Some refusal.Size

-- this object holds this value now, and all else is as it was
abbrev pub with_value_at : ℕ → ObjectValue → ObjectsState → ObjectsState
with_value_at index value objects = record { rows = objects.rows; values = slice_set objects.values index value }

-- every object holds its first value
abbrev pub at_start : List ObjectRow → ObjectsState
at_start rows = record { rows = rows; values = first_values rows }
