use Rattle.std.proofs.Common.{rules, ◌<◌, length, subst, arith}
use Rattle.knxsec_app.proofs.Paging.{one_more_passed, one_failed_passing, all_passed, next_line, no_line_left}
use Rattle.knxsec_app.proofs.playing.pass_steps.Goals as goal

pub returns-in_err-pass-clause-text : goal.returns-in_err-pass-clause-text
returns-in_err-pass-clause-text g c =
    let next = next_line c.args.world.now.world c.args.world.now.history c.loop-step.step
    (subst (λ h. c.loop-step.step < length h) c.history-step-end.ensures.history c.loop-step-test.true) in
    one_failed_passing c.pass.new.page.held _ c.from_residual.result _ _ _ c.loop-step.invariant.passed next.1 next.2
    c.from_residual.ensures.0 c.in_err-pass.ensures.text

pub loop-step-preserved : goal.loop-step-preserved
loop-step-preserved g c =
    let next = next_line c.args.world.now.world c.args.world.now.history c.loop-step.step
    (subst (λ h. c.loop-step.step < length h) c.history-step-end.ensures.history c.loop-step-test.true) in
    record {
      passed = one_more_passed _ _ _ c.loop-step.invariant.passed next.1 next.2 c.in_ok-pass.ensures.text;
      kept = search rules;
      end = search rules;
    }

pub returns-clause-text : goal.returns-clause-text
returns-clause-text g c =
    all_passed c.loop-step.invariant.passed
    (no_line_left c.args.world.now.history c.loop-step.step
    (grind (arith, c.loop-step-test.false, c.history-step-end.ensures.history)))
