-- Plumbing: a table of marks, in which a lane stands at most once.
use Rattle.std.specs.Prelude.{ℕ, unwrap_or}
use Rattle.std.specs.Map.{lookup}
use Rattle.key_tables.specs.declared.types.Lane.{Lane}
use Rattle.key_tables.specs.Lanes.{same_lane}
use Rattle.audit_core.specs.Audit.{AllKept}

-- the mark of a lane, 0 where it has none
abbrev pub mark_in : AllKept → Lane → ℕ
mark_in marks lane = unwrap_or (lookup (same_lane lane) marks) 0
