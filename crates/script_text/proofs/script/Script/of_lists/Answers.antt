use Rattle.script_text.specs.Lists.{lists}
use Rattle.script_text.proofs.Whole.{whole}
use Rattle.script_text.proofs.script.Script.of_lists.Goals as goal

pub invariant_of-result : goal.invariant_of-result
invariant_of-result c =
    whole (lists c.lists.inside.stage c.lists.inside.rows c.lists.inside.nodes.items c.lists.inside.objects.items
    c.lists.inside.marks.items c.lists.inside.events.items)
    c.args.lists c.args.nodes.items c.lists.view_is c.lists.invariant c.requires.few c.requires.nodes

pub returns-clause-keeps : goal.returns-clause-keeps
returns-clause-keeps c =
    whole (lists c.lists.inside.stage c.lists.inside.rows c.lists.inside.nodes.items c.lists.inside.objects.items
    c.lists.inside.marks.items c.lists.inside.events.items)
    c.args.lists c.args.nodes.items c.lists.view_is c.lists.invariant c.requires.few c.requires.nodes
