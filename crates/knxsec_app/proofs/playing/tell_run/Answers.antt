use Rattle.install_run.specs.Report.{end_text, steps_text}
use Rattle.knxsec_app.proofs.Answering.{prefix_more}
use Rattle.knxsec_app.proofs.Telling.{told_behind}
use Rattle.knxsec_app.proofs.playing.tell_run.Goals as goal

pub returns-in_default-pass_steps-clause-answer : goal.returns-in_default-pass_steps-clause-answer
returns-in_default-pass_steps-clause-answer g c =
    let w = c.args.world.now in
    prefix_more _ _ (steps_text w.world w.history) (end_text w.nodes w.world w.history)
    c.in_default-pass_steps.ensures.text

pub returns-clause-answer : goal.returns-clause-answer
returns-clause-answer g c =
    let w = c.args.world.now in
    told_behind c.pass_steps.new.page.held (steps_text w.world w.history) (end_text w.nodes w.world w.history)
    c.finish_part.result _ _ _ c.in-Ok-pass_steps.ensures.text c.finish_part.ensures.answer
