-- What stands behind the APDU in the line of a record. This is statement.
use Rattle.std.specs.Prelude.{ℕ, Bool, true, false, if◌then◌else◌, List, [], Option, Some, None}
use Rattle.std.specs.Option.{option_and_then}
use Rattle.knx_base.specs.declared.address.GroupAddr.{GroupAddr}
use Rattle.plain_apdu.specs.declared.service.Service.{Service}
use Rattle.plain_apdu.specs.declared.service.Service.TheVariants.{GroupValueResponse, GroupValueWrite}
use Rattle.judge_rules.specs.declared.verdict.Verdict.{Verdict}
use Rattle.judge_rules.specs.declared.verdict.Verdict.TheVariants.{Accepted}
use Rattle.audit_core.specs.declared.line.Addresses.{Addresses}
use Rattle.audit_core.specs.declared.line.Line.{Line}
use Rattle.datapoints.specs.declared.dpt.Dpt.{Dpt}
use Rattle.datapoints.specs.Types.{dpt_of}
use Rattle.datapoints.specs.Shown.{shown_value}

-- what stands behind each APDU, by the line and the APDU
abbrev pub Behind : Type 0
Behind = Line → List ℕ → List ℕ

abbrev pub nothing_shown : Behind
nothing_shown line apdu = []

-- ---- the values of groups that have a type

abbrev pub carries_value : Service → Bool
carries_value GroupValueWrite = true
carries_value GroupValueResponse = true
carries_value _ = false

-- an accepted write or response
abbrev pub has_value : Verdict → Bool
has_value (Accepted number service) = carries_value service
has_value _ = false

abbrev pub group_in : Option Addresses → Option GroupAddr
group_in None = None
group_in (Some found) = if found.group then Some (record { 0 = found.destination }) else None

-- the type of the group that a record is for
abbrev pub type_for : List (GroupAddr × Dpt) → Line → Option Dpt
type_for types line = option_and_then (dpt_of types) (group_in line.addresses)

abbrev pub value_of : Option Dpt → List ℕ → List ℕ
value_of None apdu = []
value_of (Some dpt) apdu = shown_value dpt apdu

-- the value of an accepted write or response of a group that has a type
abbrev pub values_shown : List (GroupAddr × Dpt) → Behind
values_shown types line apdu = if has_value line.verdict then value_of (type_for types line) apdu else []
