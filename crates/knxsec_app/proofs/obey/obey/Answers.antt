use Rattle.std.proofs.Common.{Some, [], ◌∷◌, inl, sym, subst}
use Rattle.knx_base.specs.Files.{Seen}
use Rattle.knxsec_app.specs.Answer.{Answers}
use Rattle.knxsec_app.specs.Asked.{asked_of}
use Rattle.knxsec_app.specs.Commands.{answer_to, AreFiles, AreThere, AreUnopened}
use Rattle.knxsec_app.specs.Order.{OpensFiles, OpensInOrder, files_of}
use Rattle.knxsec_app.proofs.Opened.{opens_all, opens_none}
use Rattle.knxsec_app.proofs.Ordered.{only_of}
use Rattle.knxsec_app.proofs.obey.obey.Goals as goal

pub audit-requires : goal.audit-requires
audit-requires g c = record {
  there =
      λ told is. subst (λ command. AreThere (Some (asked_of command)) told) c.in-Audit.is (c.requires.there told is);
}

pub audit_by_keyring-requires : goal.audit_by_keyring-requires
audit_by_keyring-requires g c = record {
  there = λ told is. subst (λ command. AreThere (Some (asked_of command)) told) c.in-AuditKeyring.is
      (c.requires.there told is);
}

pub returns-in-Audit-clause-answer : goal.returns-in-Audit-clause-answer
returns-in-Audit-clause-answer g c told are =
    subst (λ command. Answers (answer_to (Some (asked_of command)) told) c.audit.result (g.S.Sink.octets c.args.out.now)
    (g.S.Sink.octets c.audit.new.out)) (sym c.in-Audit.is)
    (c.audit.ensures.answer told (subst (λ command. AreFiles (Some (asked_of command)) (g.F.Files.seen c.args.files.now)
    told) c.in-Audit.is are))

pub returns-in-Audit-clause-unopened : goal.returns-in-Audit-clause-unopened
returns-in-Audit-clause-unopened g c refused told are =
    subst (λ command. AreUnopened (Some (asked_of command)) told (g.F.Files.seen c.args.files.now)
    (g.F.Files.seen c.audit.new.files)) (sym c.in-Audit.is)
    (c.audit.ensures.unopened refused told (subst (λ command. AreFiles (Some (asked_of command))
    (g.F.Files.seen c.args.files.now) told) c.in-Audit.is are))

pub returns-in-AuditKeyring-clause-answer : goal.returns-in-AuditKeyring-clause-answer
returns-in-AuditKeyring-clause-answer g c told are =
    subst (λ command. Answers (answer_to (Some (asked_of command)) told) c.audit_by_keyring.result
    (g.S.Sink.octets c.args.out.now) (g.S.Sink.octets c.audit_by_keyring.new.out)) (sym c.in-AuditKeyring.is)
    (c.audit_by_keyring.ensures.answer told (subst (λ command. AreFiles (Some (asked_of command))
    (g.F.Files.seen c.args.files.now) told) c.in-AuditKeyring.is are))

pub returns-in-AuditKeyring-clause-unopened : goal.returns-in-AuditKeyring-clause-unopened
returns-in-AuditKeyring-clause-unopened g c refused told are =
    subst (λ command. AreUnopened (Some (asked_of command)) told (g.F.Files.seen c.args.files.now)
    (g.F.Files.seen c.audit_by_keyring.new.files)) (sym c.in-AuditKeyring.is)
    (c.audit_by_keyring.ensures.unopened refused told (subst
    (λ command. AreFiles (Some (asked_of command)) (g.F.Files.seen c.args.files.now) told) c.in-AuditKeyring.is
    are))

pub replay-requires : goal.replay-requires
replay-requires g c = record {
  there =
      λ told is. subst (λ command. AreThere (Some (asked_of command)) told) c.in-Replay.is (c.requires.there told is);
}

pub returns-in-Audit-clause-order : goal.returns-in-Audit-clause-order
returns-in-Audit-clause-order g c told are =
    let old : Seen = g.F.Files.seen c.args.files.now in
    let new : Seen = g.F.Files.seen c.audit.new.files in
    subst (λ command. OpensInOrder told (files_of (Some (asked_of command))) old.places new.places)
    (sym c.in-Audit.is)
    (c.audit.ensures.order told (subst (λ command. AreFiles (Some (asked_of command)) old told) c.in-Audit.is are))

pub returns-in-AuditKeyring-clause-order : goal.returns-in-AuditKeyring-clause-order
returns-in-AuditKeyring-clause-order g c told are =
    let old : Seen = g.F.Files.seen c.args.files.now in
    let new : Seen = g.F.Files.seen c.audit_by_keyring.new.files in
    subst (λ command. OpensInOrder told (files_of (Some (asked_of command))) old.places new.places)
    (sym c.in-AuditKeyring.is)
    (c.audit_by_keyring.ensures.order told (subst (λ command. AreFiles (Some (asked_of command)) old told)
    c.in-AuditKeyring.is are))

pub returns-in-Replay-clause-order : goal.returns-in-Replay-clause-order
returns-in-Replay-clause-order g c told are =
    let old : Seen = g.F.Files.seen c.args.files.now in
    let new : Seen = g.F.Files.seen c.replay.new.files in
    subst (λ command. OpensInOrder told (files_of (Some (asked_of command))) old.places new.places)
    (sym c.in-Replay.is)
    (inl (only_of old new c.in-Replay.script.now told
    (subst (λ command. AreFiles (Some (asked_of command)) old told) c.in-Replay.is are) c.replay.ensures.opens))

pub audit_values-requires : goal.audit_values-requires
audit_values-requires g c = record {
  there = λ told is. subst (λ command. AreThere (Some (asked_of command)) told) c.in-AuditValues.is
      (c.requires.there told is);
}

pub returns-in-AuditValues-clause-answer : goal.returns-in-AuditValues-clause-answer
returns-in-AuditValues-clause-answer g c told are =
    subst (λ command. Answers (answer_to (Some (asked_of command)) told) c.audit_values.result
    (g.S.Sink.octets c.args.out.now) (g.S.Sink.octets c.audit_values.new.out)) (sym c.in-AuditValues.is)
    (c.audit_values.ensures.answer told (subst (λ command. AreFiles (Some (asked_of command))
    (g.F.Files.seen c.args.files.now) told) c.in-AuditValues.is are))

pub returns-in-AuditValues-clause-unopened : goal.returns-in-AuditValues-clause-unopened
returns-in-AuditValues-clause-unopened g c refused told are =
    subst (λ command. AreUnopened (Some (asked_of command)) told (g.F.Files.seen c.args.files.now)
    (g.F.Files.seen c.audit_values.new.files)) (sym c.in-AuditValues.is)
    (c.audit_values.ensures.unopened refused told (subst (λ command. AreFiles (Some (asked_of command))
    (g.F.Files.seen c.args.files.now) told) c.in-AuditValues.is are))

pub returns-in-AuditValues-clause-order : goal.returns-in-AuditValues-clause-order
returns-in-AuditValues-clause-order g c told are =
    let old : Seen = g.F.Files.seen c.args.files.now in
    let new : Seen = g.F.Files.seen c.audit_values.new.files in
    subst (λ command. OpensInOrder told (files_of (Some (asked_of command))) old.places new.places)
    (sym c.in-AuditValues.is)
    (c.audit_values.ensures.order told
    (subst (λ command. AreFiles (Some (asked_of command)) old told) c.in-AuditValues.is are))

pub returns-in-Audit-clause-opens : goal.returns-in-Audit-clause-opens
returns-in-Audit-clause-opens g c =
    let old : Seen = g.F.Files.seen c.args.files.now in
    let new : Seen = g.F.Files.seen c.audit.new.files in
    subst (λ command. OpensFiles (files_of (Some (asked_of command))) c.audit.result old new) (sym c.in-Audit.is)
    c.audit.ensures.opens

pub returns-in-AuditKeyring-clause-opens : goal.returns-in-AuditKeyring-clause-opens
returns-in-AuditKeyring-clause-opens g c =
    let old : Seen = g.F.Files.seen c.args.files.now in
    let new : Seen = g.F.Files.seen c.audit_by_keyring.new.files in
    subst (λ command. OpensFiles (files_of (Some (asked_of command))) c.audit_by_keyring.result old new)
    (sym c.in-AuditKeyring.is) c.audit_by_keyring.ensures.opens

pub returns-in-AuditValues-clause-opens : goal.returns-in-AuditValues-clause-opens
returns-in-AuditValues-clause-opens g c =
    let old : Seen = g.F.Files.seen c.args.files.now in
    let new : Seen = g.F.Files.seen c.audit_values.new.files in
    subst (λ command. OpensFiles (files_of (Some (asked_of command))) c.audit_values.result old new)
    (sym c.in-AuditValues.is) c.audit_values.ensures.opens

pub returns-in-Replay-clause-opens : goal.returns-in-Replay-clause-opens
returns-in-Replay-clause-opens g c =
    let old : Seen = g.F.Files.seen c.args.files.now in
    let new : Seen = g.F.Files.seen c.replay.new.files in
    subst (λ command. OpensFiles (files_of (Some (asked_of command))) c.replay.result old new) (sym c.in-Replay.is)
    (opens_all (c.in-Replay.script.now ∷ []) c.replay.result old new c.replay.ensures.told c.replay.ensures.opens)

pub returns-in-Open-clause-opens : goal.returns-in-Open-clause-opens
returns-in-Open-clause-opens g c =
    let seen : Seen = g.F.Files.seen c.args.files.now in
    subst (λ command. OpensFiles (files_of (Some (asked_of command))) c.open.result seen seen) (sym c.in-Open.is)
    (opens_none c.open.result seen)

pub returns-in-Make-clause-opens : goal.returns-in-Make-clause-opens
returns-in-Make-clause-opens g c =
    let seen : Seen = g.F.Files.seen c.args.files.now in
    subst (λ command. OpensFiles (files_of (Some (asked_of command))) c.make.result seen seen) (sym c.in-Make.is)
    (opens_none c.make.result seen)

pub returns-in-Encode-clause-opens : goal.returns-in-Encode-clause-opens
returns-in-Encode-clause-opens g c =
    let seen : Seen = g.F.Files.seen c.args.files.now in
    subst (λ command. OpensFiles (files_of (Some (asked_of command))) c.encode.result seen seen) (sym c.in-Encode.is)
    (opens_none c.encode.result seen)
