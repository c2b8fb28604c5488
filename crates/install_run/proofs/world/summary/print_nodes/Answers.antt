use Rattle.std.proofs.Common.{rules, arith, subst, ◌≤◌}
use Rattle.step_text.proofs.Pieces.{one_more, one_failed, all_printed}
use Rattle.install_run.proofs.Ending.{next_place, no_place_left}
use Rattle.install_run.proofs.world.summary.print_nodes.Goals as goal

pub returns-in_err-print_place-clause-text : goal.returns-in_err-print_place-clause-text
returns-in_err-print_place-clause-text g c =
    one_failed _ c.from_residual.result _ _ c.places.invariant.printed
    (next_place c.args.nodes.now c.args.places.now c.places.index c.index-nodes-index.result c.index-places-index.result
    (grind (arith, c.places-test.true, c.min-index-end.ensures))
    (grind (arith, c.places-test.true, c.min-index-end.ensures))
    c.index-nodes-index.is c.index-places-index.is)
    c.from_residual.ensures.0 c.in_err-print_place.ensures.text

pub places-preserved : goal.places-preserved
places-preserved g c = record {
  printed = one_more _ _ c.places.invariant.printed
      (next_place c.args.nodes.now c.args.places.now c.places.index c.index-nodes-index.result
      c.index-places-index.result
      (grind (arith, c.places-test.true, c.min-index-end.ensures))
      (grind (arith, c.places-test.true, c.min-index-end.ensures))
      c.index-nodes-index.is c.index-places-index.is)
      c.in_ok-print_place.ensures.text;
  kept = search rules;
}

pub returns-clause-text : goal.returns-clause-text
returns-clause-text g c =
    all_printed c.places.invariant.printed
    (no_place_left c.args.nodes.now c.args.places.now c.places.index
    (subst (λ n. n ≤ c.places.index) c.min-index-end.ensures c.places-test.false))
