use Rattle.std.proofs.Common.{length, ◌≡◌, ℕ, ◌-◌, ◌<◌, ◌≤◌, ◌^◌, IfOk, MatchResult, Ok, Err, ◌+◌, ◌*◌}
use Rattle.std.specs.List.{list_all}
use Rattle.group_objects.specs.Value.{bits_value}
use Rattle.script_text.specs.Parts.{IsName, is_name_octet}
use Rattle.script_text.specs.Words.{number_named, octets_named, octet_named, address_named, name_named, lane_named, lane_device, tool_lane, is_flag, is_distinct, has_octet, flags_in, flags_named, bits_named, octets_value_named, size_named, value_sized, value_named, service_named}
use Rattle.script_text.proofs.words.+is_distinct.Given as goal

-- proposed from what the function passes where it calls itself
abbrev pub decreases-is_distinct : goal.decreases-is_distinct
decreases-is_distinct l = length l.letters.now
