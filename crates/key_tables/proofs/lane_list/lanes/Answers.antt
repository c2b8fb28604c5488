use Rattle.std.proofs.lemmas.List.Filters.{dedup_is}
use Rattle.key_tables.proofs.LaneOrder.{cmp_is, same_is}
use Rattle.key_tables.proofs.NamedLanes.{lanes_are, only_lanes}
use Rattle.key_tables.proofs.SortedLanes.{sorted_once, are_lanes_of}
use Rattle.key_tables.proofs.SendersLanes.{lane_there}
use Rattle.key_tables.proofs.lane_list.lanes.Goals as goal

pub returns-in_err-lanes-clause-are : goal.returns-in_err-lanes-clause-are
returns-in_err-lanes-clause-are c = lanes_are c.args.rows.now c.args.node c.args.groups.now

pub returns-in_err-lanes-clause-alone : goal.returns-in_err-lanes-clause-alone
returns-in_err-lanes-clause-alone c = only_lanes c.args.rows.now c.args.node c.args.groups.now

pub returns-in_err-lanes-clause-senders : goal.returns-in_err-lanes-clause-senders
returns-in_err-lanes-clause-senders c = lane_there c.args.rows.now c.requires.named c.args.node c.args.groups.now

pub returns-clause-lanes : goal.returns-clause-lanes
returns-clause-lanes c =
    are_lanes_of _ _ _ _ _ c.in_ok-lanes.ensures
    (sorted_once _ _ same_is cmp_is _ _ _ c.sort_unstable.ensures.permutation c.sort_unstable.ensures.sorted
    (dedup_is _ _ _ c.dedup.ensures.filtered))

pub returns-clause-are : goal.returns-clause-are
returns-clause-are c = lanes_are c.args.rows.now c.args.node c.args.groups.now

pub returns-clause-alone : goal.returns-clause-alone
returns-clause-alone c = only_lanes c.args.rows.now c.args.node c.args.groups.now

pub returns-clause-senders : goal.returns-clause-senders
returns-clause-senders c = lane_there c.args.rows.now c.requires.named c.args.node c.args.groups.now
