use Rattle.std.proofs.Common.{◌≡◌}
use Rattle.script_text.proofs.Making.{line_stands, first_stands, second_stands, has_node, one_more_installed}
use Rattle.script_text.proofs.made.add_node.Goals as goal

pub add_made-requires-clause-stands : goal.add_made-requires-clause-stands
add_made-requires-clause-stands c =
    line_stands c.args.list.now c.args.node c.made_line.result c.requires.before c.requires.four c.made_line.ensures

pub add_made-requires-2-clause-stands : goal.add_made-requires-2-clause-stands
add_made-requires-2-clause-stands c =
    first_stands c.args.list.now c.args.node c.made_line.result c.requires.before c.requires.four c.made_line.ensures
    c.add_made.new.list c.first_object.result c.first_object.ensures c.in_ok-add_made.ensures.added

pub add_made-requires-3-clause-stands : goal.add_made-requires-3-clause-stands
add_made-requires-3-clause-stands c =
    second_stands c.args.list.now c.args.node c.made_line.result c.requires.before c.requires.four c.made_line.ensures
    c.add_made.new.list c.first_object.result c.first_object.ensures c.in_ok-add_made.ensures.added
    c.add_made-2.new.list c.second_object.result c.second_object.ensures c.in_ok-add_made-2.ensures.added

pub returns-clause-installed : goal.returns-clause-installed
returns-clause-installed c =
    one_more_installed c.args.list.now c.add_made-3.new.list c.args.node c.requires.before c.requires.four
    (has_node c.args.list.now c.args.node c.made_line.result c.requires.before c.requires.four c.made_line.ensures
    c.add_made.new.list c.first_object.result c.first_object.ensures c.in_ok-add_made.ensures.added
    c.add_made-2.new.list c.second_object.result c.second_object.ensures c.in_ok-add_made-2.ensures.added
    c.add_made-3.new.list c.in_ok-add_made-3.ensures.added)
