use Rattle.std.proofs.Common.{Err, ap, sym, ◌∙◌}
use Rattle.std.specs.Prelude.{codes}
use Rattle.knxsec_app.specs.Auditing.{within}
use Rattle.knxsec_app.specs.Commands.{octets_in}
use Rattle.knxsec_app.specs.Refusing.{refused}
use Rattle.knxsec_app.proofs.Stopping.{refusal_told}
use Rattle.knxsec_app.proofs.Told.{holds_there, text_within, text_past}
use Rattle.knxsec_app.proofs.whole_file.WholeFile.read.Goals as goal

pub returns-in-Ok-Some-clause-text : goal.returns-in-Ok-Some-clause-text
returns-in-Ok-Some-clause-text g c told is =
    (text_within c.args.self _ _ _ _ _ c.most.ensures.most c.in-Ok-Some.field-0-is
    (c.in-Ok-Some.ensures.whole _ (holds_there (g.F.Files.seen c.args.files.now) told c.args.name.now is
    (c.requires.there told is)))).0

pub returns-in-Ok-Some-clause-read : goal.returns-in-Ok-Some-clause-read
returns-in-Ok-Some-clause-read g c whole told is =
    (text_within c.args.self _ _ _ _ _ c.most.ensures.most c.in-Ok-Some.field-0-is
    (c.in-Ok-Some.ensures.whole _ (holds_there (g.F.Files.seen c.args.files.now) told c.args.name.now is
    (c.requires.there told is)))).1

pub returns-in-Ok-None-clause-text : goal.returns-in-Ok-None-clause-text
returns-in-Ok-None-clause-text g c told is =
    refusal_told (within c.args.self (octets_in told c.args.name.now)) (refused c.word.result.now (codes " long")) _ _ _
    (text_past c.args.self _ _ _ _ c.most.ensures.most c.in-Ok-None.field-0-is
    (c.in-Ok-None.ensures.whole _ (holds_there (g.F.Files.seen c.args.files.now) told c.args.name.now is
    (c.requires.there told is)))
    ∙ ap (λ word. Err (refused word (codes " long"))) (sym c.word.ensures.word))
    c.refuse_whole.ensures.answer
