use Rattle.std.proofs.Common.{rules, arith, subst, ◌≤◌}
use Rattle.step_text.proofs.Marked.{next_mark, no_mark_left}
use Rattle.step_text.proofs.Pieces.{one_more, one_failed, all_printed}
use Rattle.step_text.proofs.line.print_marks.Goals as goal

pub returns-in_err-print_mark-clause-text : goal.returns-in_err-print_mark-clause-text
returns-in_err-print_mark-clause-text g c =
    one_failed _ c.from_residual.result _ _ c.loop-index.invariant.printed
    (next_mark c.args.lanes.now c.args.marks.now c.loop-index.index c.index-marks-index.result
    (grind (arith, c.loop-index-test.true, c.min-index-end.ensures))
    (grind (arith, c.loop-index-test.true, c.min-index-end.ensures)) c.index-marks-index.is)
    c.from_residual.ensures.0 c.in_err-print_mark.ensures.text

pub loop-index-preserved : goal.loop-index-preserved
loop-index-preserved g c = record {
  printed = one_more _ _ c.loop-index.invariant.printed
      (next_mark c.args.lanes.now c.args.marks.now c.loop-index.index c.index-marks-index.result
      (grind (arith, c.loop-index-test.true, c.min-index-end.ensures))
      (grind (arith, c.loop-index-test.true, c.min-index-end.ensures)) c.index-marks-index.is)
      c.in_ok-print_mark.ensures.text;
  kept = search rules;
}

pub returns-clause-text : goal.returns-clause-text
returns-clause-text g c =
    all_printed c.loop-index.invariant.printed
    (no_mark_left c.args.lanes.now c.args.marks.now c.loop-index.index
    (subst (λ n. n ≤ c.loop-index.index) c.min-index-end.ensures c.loop-index-test.false))
