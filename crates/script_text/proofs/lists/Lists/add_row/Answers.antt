use Rattle.std.proofs.Common.{◌≡◌, Ok, false, ap, ◌∙◌}
use Rattle.std.specs.List.{list_any}
use Rattle.key_tables.specs.Lanes.{is_any}
use Rattle.script_text.proofs.Standing.{rows_still_stand, rows_still_named}
use Rattle.script_text.proofs.lists.Lists.add_row.Goals as goal

pub invariant_of-self : goal.invariant_of-self
invariant_of-self c =
    let was = c.self.invariant in record {
      named = rows_still_named c.self.inside.rows c.add.new.self c.args.row c.in-Ok.ensures.added.0 was.named
          c.requires.said;
      stand = rows_still_stand c.self.inside.rows c.add.new.self c.args.row c.in-Ok.ensures.added.0 was.stand
          c.in-Ok.ensures.added.1;
      nodes_are = was.nodes_are;
      nodes_once = was.nodes_once;
      nodes_few = was.nodes_few;
      groups = was.groups;
      objects_stand = was.objects_stand;
      marks_fit = was.marks_fit;
      events_stand = was.events_stand;
      events_few = was.events_few;
    }
