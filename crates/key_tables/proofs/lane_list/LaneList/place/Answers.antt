use Rattle.std.proofs.Common.{ap, ◌∙◌}
use Rattle.std.specs.Prelude.{position}
use Rattle.key_tables.specs.Lanes.{same_lane}
use Rattle.key_tables.proofs.LaneOrder.{place_there, place_at}
use Rattle.key_tables.proofs.lane_list.LaneList.place.Goals as goal

pub returns-clause-there : goal.returns-clause-there
returns-clause-there c =
    place_there c.args.self.now c.args.lane _ (c.place_in.ensures
    ∙ ap (position (same_lane c.args.lane)) (c.deref.ensures.value ∙ c.self.view_is))

pub returns-clause-at : goal.returns-clause-at
returns-clause-at c =
    place_at c.args.self.now c.args.lane _ (c.place_in.ensures
    ∙ ap (position (same_lane c.args.lane)) (c.deref.ensures.value ∙ c.self.view_is))
