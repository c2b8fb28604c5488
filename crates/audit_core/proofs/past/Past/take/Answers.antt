use Rattle.std.proofs.Common.{None, ap, sym, ◌∙◌}
use Rattle.cemi_frames.specs.Frames.{telegram}
use Rattle.judge_rules.specs.Parts.{source_of}
use Rattle.sync_service.specs.Open.{asked_in, with_pair}
use Rattle.audit_core.specs.Audit.{receiver_of}
use Rattle.audit_core.specs.State.{exchanged}
use Rattle.audit_core.proofs.past.Past.take.Goals as goal

pub returns-in_ok-keep-in-SyncAnswer-clause-asked : goal.returns-in_ok-keep-in-SyncAnswer-clause-asked
returns-in_ok-keep-in-SyncAnswer-clause-asked c =
    let t = telegram c.args.frame.now in
    c.close.ensures.closed
    ∙ (λ i. with_pair (c.receiver-in-SyncAnswer.ensures i) (source_of t) None (asked_in (c.keep.ensures.asked i)))
    ∙ ap (λ said. exchanged (source_of t) (receiver_of t) said (asked_in c.args.self.now.asked))
    (sym c.in-SyncAnswer.is)
