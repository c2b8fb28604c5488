use Rattle.std.proofs.Common.{rules, sym, ◌∙◌}
use Rattle.step_text.proofs.Pieces.{one_more, one_failed, all_printed}
use Rattle.install_run.specs.Report.{values_of}
use Rattle.install_run.proofs.Ending.{next_value, no_value_left, all_values}
use Rattle.install_run.proofs.place.Place.print_values.Goals as goal

pub returns-in_err-print_value-clause-text : goal.returns-in_err-print_value-clause-text
returns-in_err-print_value-clause-text g c =
    one_failed _ c.from_residual.result _ _ c.objects.invariant.printed
    (next_value 64 (values_of c.args.self.now.node.standing) c.objects.object c.in-Some.value c.objects-test.true
    (sym c.value.ensures ∙ c.in-Some.is))
    c.from_residual.ensures.0 c.in_err-print_value.ensures.text

pub objects-preserved : goal.objects-preserved
objects-preserved g c = record {
  printed = one_more _ _ c.objects.invariant.printed
      (next_value 64 (values_of c.args.self.now.node.standing) c.objects.object c.in-Some.value c.objects-test.true
      (sym c.value.ensures ∙ c.in-Some.is))
      c.in_ok-print_value.ensures.text;
  kept = search rules;
}

pub returns-in_default-clause-text : goal.returns-in_default-clause-text
returns-in_default-clause-text g c =
    all_printed c.objects.invariant.printed
    (no_value_left 64 (values_of c.args.self.now.node.standing) c.objects.object
    (sym c.value.ensures ∙ c.in_default.is))

pub returns-clause-text : goal.returns-clause-text
returns-clause-text g c =
    all_printed c.objects.invariant.printed (all_values 64 (values_of c.args.self.now.node.standing) c.objects.object
    c.objects-test.false)
