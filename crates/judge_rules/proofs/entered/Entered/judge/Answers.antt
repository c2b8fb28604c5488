use Rattle.cemi_frames.specs.Frames.{telegram}
use Rattle.judge_rules.proofs.Entering.{entered_passes, verdict_as}
use Rattle.judge_rules.proofs.Entitling.{entitled}
use Rattle.judge_rules.proofs.entered.Entered.judge.Goals as goal

pub returns-in-Some-clause-verdict : goal.returns-in-Some-clause-verdict
returns-in-Some-clause-verdict c =
    let self = c.args.self.now in
    let t = telegram self.frame in
    verdict_as self.tables.now c.args.kept c.args.asked t _ self.channel _
    (entered_passes self.tables.now c.args.asked t self.passes c.in-Some.ensures.0) self.on_channel c.in-Some.ensures.1
    c.judge_under.ensures.verdict

pub returns-in-Some-clause-entitled : goal.returns-in-Some-clause-entitled
returns-in-Some-clause-entitled c good =
    let self = c.args.self.now in
    let t = telegram self.frame in
    entitled self.tables.now c.args.asked t self.channel _
    (entered_passes self.tables.now c.args.asked t self.passes c.in-Some.ensures.0) self.on_channel self.keyed
    (c.judge_under.ensures.sender good)
