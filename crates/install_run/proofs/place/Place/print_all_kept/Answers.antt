use Rattle.std.proofs.Common.{rules}
use Rattle.step_text.proofs.Pieces.{one_more, one_failed, all_printed}
use Rattle.install_run.proofs.Ending.{next_kept, none_kept_left}
use Rattle.install_run.proofs.place.Place.print_all_kept.Goals as goal

pub returns-in_err-print_kept-clause-text : goal.returns-in_err-print_kept-clause-text
returns-in_err-print_kept-clause-text g c =
    one_failed _ c.from_residual.result _ _ c.lanes.invariant.printed
    (next_kept c.args.self.now.node.config.lanes c.lanes-lanes.result.now c.args.self.now.node.octets c.lanes.index
    c.stored.result
    c.lanes-lanes.ensures.lanes c.lanes-test.true c.stored.ensures)
    c.from_residual.ensures.0 c.in_err-print_kept.ensures.text

pub lanes-preserved : goal.lanes-preserved
lanes-preserved g c = record {
  printed = one_more _ _ c.lanes.invariant.printed
      (next_kept c.args.self.now.node.config.lanes c.lanes-lanes.result.now c.args.self.now.node.octets c.lanes.index
      c.stored.result
      c.lanes-lanes.ensures.lanes c.lanes-test.true c.stored.ensures)
      c.in_ok-print_kept.ensures.text;
  kept = search rules;
}

pub returns-clause-text : goal.returns-clause-text
returns-clause-text g c =
    all_printed c.lanes.invariant.printed
    (none_kept_left c.args.self.now.node.config.lanes c.lanes-lanes.result.now _ c.lanes.index
    c.lanes-lanes.ensures.lanes c.lanes-test.false)
