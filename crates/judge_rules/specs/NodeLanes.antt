-- Statement: what a node keeps, it keeps on a lane of its own.
use Rattle.std.specs.Prelude.{◌≡◌, ℕ, true, List, Option, Some}
use Rattle.cemi_frames.specs.Frames.{Telegram}
use Rattle.knx_base.specs.declared.address.GroupAddr.{GroupAddr}
use Rattle.knx_base.specs.declared.address.IndAddr.{IndAddr}
use Rattle.key_tables.specs.declared.types.Lane.{Lane}
use Rattle.key_tables.specs.declared.types.Row.{Row}
use Rattle.key_tables.specs.Lanes.{has_lane, is_to, lanes_of}
use Rattle.judge_rules.specs.Parts.{is_group}
use Rattle.judge_rules.specs.Checks.{kept_by}

-- the number that is kept of a telegram to the node, or to one of these groups, under any mark and any open challenge
abbrev pub KeptOnItsLanes : List Row → IndAddr → List GroupAddr → Type 0
KeptOnItsLanes rows node groups =
    (mark : ℕ) (asked : Option (List ℕ)) (t : Telegram) (kept : Lane × ℕ)
    → is_to node groups (is_group t) t.destination ≡ true
    → kept_by rows mark asked t ≡ Some kept
    → has_lane (lanes_of rows node groups) kept.0 ≡ true
