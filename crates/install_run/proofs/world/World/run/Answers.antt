use Rattle.std.proofs.Common.{◌∙◌, length, get_or, subst}
use Rattle.script_text.specs.declared.event.Event.{Event}
use Rattle.install_run.specs.World.{IsStepped}
use Rattle.install_run.proofs.Stepping.{run_at, noted_at}
use Rattle.install_run.proofs.world.World.run.Goals as goal

pub loop-event-preserved : goal.loop-event-preserved
loop-event-preserved c =
    let before = c.loop-event.invariant in
    let stepped = subst (λ (e : Event). IsStepped e c.loop-event.self c.step.new.self) c.event-item.is
    c.in_ok-step.ensures.stepped in
    let script = c.in_ok-step.ensures.script in
    record {
      run = run_at c.args.events.now c.loop-event.event-index c.event-item.result c.args.self.now c.loop-event.self
          c.step.new.self c.loop-event-test.true
          before.run stepped;
      script = record {
        rows = script.rows ∙ before.script.rows;
        nodes = script.nodes ∙ before.script.nodes;
        size = script.size ∙ before.script.size;
      };
      noted = noted_at c.loop-event.event-index (length c.args.self.now.history)
          (get_or c.args.events.now c.loop-event.event-index c.event-item.result)
          c.loop-event.self c.step.new.self before.noted stepped;
    }
