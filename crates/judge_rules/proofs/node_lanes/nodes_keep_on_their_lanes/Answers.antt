use Rattle.judge_rules.proofs.NodeLanes.{kept_place}
use Rattle.judge_rules.proofs.node_lanes.nodes_keep_on_their_lanes.Goals as goal

pub returns : goal.returns
returns c rows node groups named = kept_place rows named node groups
