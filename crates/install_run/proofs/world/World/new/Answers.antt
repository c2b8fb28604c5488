use Rattle.std.proofs.Common.{◌∙◌, map, sym, subst}
use Rattle.install_run.specs.First.{first_place}
use Rattle.install_run.specs.Origin.{IsInstallation}
use Rattle.install_run.proofs.Beginning.{is_first}
use Rattle.install_run.proofs.Originating.{of_script, first_run}
use Rattle.install_run.proofs.world.World.new.Goals as goal

pub invariant_of-result : goal.invariant_of-result
invariant_of-result c =
    let rows_are = c.in_ok-kept_rows.ensures.items ∙ c.rows-rows.ensures.rows in
    let nodes_are = c.in_ok-kept_nodes.ensures.nodes ∙ c.nodes-nodes.ensures.nodes in
    first_run c.in_ok-kept_rows.kept_rows.items c.in_ok-kept_nodes.kept_nodes.items c.in_ok-places.places.items
    c.new.result.items c.new-2.result.items
    (subst (λ rows. IsInstallation rows c.in_ok-kept_nodes.kept_nodes.items) (sym rows_are)
    (subst (IsInstallation c.args.script.now.rows) (sym nodes_are)
    (of_script c.args.script.now.rows c.args.script.now.nodes c.args.script.now.events c.rows-rows.ensures.script)))
    (c.in_ok-places.ensures.places
    ∙ (λ i. map (first_place (sym c.in_ok-kept_rows.ensures.items i)) (sym c.in_ok-kept_nodes.ensures.nodes i)))
    c.new.ensures.items c.new-2.ensures.items

pub returns-clause-first : goal.returns-clause-first
returns-clause-first c =
    let rows_are = c.rows-rows.ensures.rows in
    let nodes_are = c.nodes-nodes.ensures.nodes in
    is_first c.args.script.now.rows c.in_ok-kept_rows.kept_rows.items c.args.script.now.nodes
    c.in_ok-kept_nodes.kept_nodes.items
    c.in_ok-places.places.items c.new.result.items c.new-2.result.items (c.in_ok-kept_rows.ensures.items ∙ rows_are)
    (c.in_ok-kept_nodes.ensures.nodes ∙ nodes_are)
    (c.in_ok-places.ensures.places ∙ (λ i. map (first_place (rows_are i)) (nodes_are i))) c.new.ensures.items
    c.new-2.ensures.items
