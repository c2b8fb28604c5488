use Rattle.std.proofs.Common.{rules, [], ◌∷◌, None, inl, inr, ◌∙◌}
use Rattle.knx_base.specs.Files.{Seen}
use Rattle.knxsec_app.specs.Auditing.{installation}
use Rattle.knxsec_app.specs.Commands.{octets_in}
use Rattle.knxsec_app.specs.Values.{typed_answer}
use Rattle.knxsec_app.proofs.Opened.{opens_all, opens_no_more, opens_then}
use Rattle.knxsec_app.proofs.Ordered.{only_of, reads_of}
use Rattle.knxsec_app.proofs.Stopping.{stops_command}
use Rattle.knxsec_app.proofs.values.audit_values.Goals as goal

pub returns-in-Err-clause-answer : goal.returns-in-Err-clause-answer
returns-in-Err-clause-answer g c told is =
    let names = c.args.names.now in
    stops_command (installation None (octets_in told names.tables.now))
    (λ rows. typed_answer rows (octets_in told names.types.now) (octets_in told names.frames.now)) _ _ _
    (c.in-Err.ensures.rows told is)

pub returns-in-Err-clause-order : goal.returns-in-Err-clause-order
returns-in-Err-clause-order g c told is =
    inl (only_of (g.F.Files.seen c.args.files.now) (g.F.Files.seen c.read_installation.new.files)
    c.args.names.now.tables.now told is c.read_installation.ensures.opens)

pub returns-in-Ok-clause-order : goal.returns-in-Ok-clause-order
returns-in-Ok-clause-order g c told is =
    let old : Seen = g.F.Files.seen c.args.files.now in
    let mid : Seen = g.F.Files.seen c.read_installation.new.files in
    inr (
      mid.places,
      reads_of old mid c.args.names.now.tables.now told is c.read_installation.ensures.opens
          (c.read_installation.ensures.read (search rules) told is),
      c.audit_typed.ensures.order told (c.read_installation.ensures.told ∙ is),
    )

pub returns-in-Err-clause-opens : goal.returns-in-Err-clause-opens
returns-in-Err-clause-opens g c =
    let names = c.args.names.now in
    let old : Seen = g.F.Files.seen c.args.files.now in
    let new : Seen = g.F.Files.seen c.read_installation.new.files in
    opens_no_more (names.tables.now ∷ []) (names.types.now ∷ names.frames.now ∷ []) c.in-Err.status c.in-Err.status old
    new c.in-Err.ensures.not_whole
    (opens_all (names.tables.now ∷ []) c.in-Err.status old new c.read_installation.ensures.told
    c.read_installation.ensures.opens)

pub returns-in-Ok-clause-opens : goal.returns-in-Ok-clause-opens
returns-in-Ok-clause-opens g c =
    let names = c.args.names.now in
    let old : Seen = g.F.Files.seen c.args.files.now in
    let mid : Seen = g.F.Files.seen c.read_installation.new.files in
    let new : Seen = g.F.Files.seen c.audit_typed.new.files in
    opens_then (names.tables.now ∷ []) (names.types.now ∷ names.frames.now ∷ []) c.audit_typed.result old mid new
    c.read_installation.ensures.told c.read_installation.ensures.opens c.audit_typed.ensures.opens
