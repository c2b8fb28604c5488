use Rattle.std.proofs.Common.{sym, ap, subst, ◌∙◌}
use Rattle.std.specs.Prelude.{codes}
use Rattle.knx_base.specs.Cause.{cause_word}
use Rattle.knxsec_app.specs.Refusing.{at_line, refused, EndsTypes}
use Rattle.knxsec_app.proofs.Refused.{refused_as}
use Rattle.knxsec_app.proofs.refusing.refuse_types.Goals as goal

pub returns-in-Line-clause-answer : goal.returns-in-Line-clause-answer
returns-in-Line-clause-answer g c =
    subst (λ fault. EndsTypes fault c.refuse.result (g.S.Sink.octets c.args.out.now)
    (g.S.Sink.octets c.refuse.new.out)) (sym c.in-Line.is)
    (refused_as (codes "types") (at_line c.in-Line.line (cause_word c.in-Line.cause)) _ _ _ _
    (c.line_at.ensures ∙ ap (λ word. (refused (codes "types") (at_line c.in-Line.line word)).report)
    c.word.ensures.word) c.refuse.ensures.answer)

pub returns-in-Twice-clause-answer : goal.returns-in-Twice-clause-answer
returns-in-Twice-clause-answer g c =
    subst (λ fault. EndsTypes fault c.refuse-in-Twice.result (g.S.Sink.octets c.args.out.now)
    (g.S.Sink.octets c.refuse-in-Twice.new.out)) (sym c.in-Twice.is)
    (refused_as (codes "types") (at_line c.in-Twice.line (codes "twice")) _ _ _ _ c.line_at-in-Twice.ensures
    c.refuse-in-Twice.ensures.answer)

pub returns-in-TooMany-clause-answer : goal.returns-in-TooMany-clause-answer
returns-in-TooMany-clause-answer g c =
    subst (λ fault. EndsTypes fault c.refuse-in-TooMany.result (g.S.Sink.octets c.args.out.now)
    (g.S.Sink.octets c.refuse-in-TooMany.new.out)) (sym c.in-TooMany.is)
    (refused_as (codes "types") (at_line c.in-TooMany.line (codes "many")) _ _ _ _ c.line_at-in-TooMany.ensures
    c.refuse-in-TooMany.ensures.answer)
