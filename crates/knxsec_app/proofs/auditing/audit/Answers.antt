use Rattle.std.proofs.Common.{rules, [], ◌∷◌, inl, inr, ◌∙◌}
use Rattle.knx_base.specs.Files.{Seen}
use Rattle.frame_file.specs.Records.{records_of}
use Rattle.knxsec_app.specs.Asked.{rows_of}
use Rattle.knxsec_app.specs.Auditing.{frames_answer, installation}
use Rattle.knxsec_app.specs.Commands.{octets_in}
use Rattle.knxsec_app.specs.Showing.{nothing_shown}
use Rattle.knxsec_app.proofs.Opened.{opens_all, opens_no_more, opens_then}
use Rattle.knxsec_app.proofs.Ordered.{only_of, reads_of}
use Rattle.knxsec_app.proofs.Stopping.{stops_command}
use Rattle.knxsec_app.proofs.auditing.audit.Goals as goal

pub returns-in-Err-clause-answer : goal.returns-in-Err-clause-answer
returns-in-Err-clause-answer g c told is =
    stops_command (installation (rows_of c.args.under) (octets_in told c.args.tables.now))
    (λ rows. frames_answer nothing_shown rows [] (records_of (octets_in told c.args.frames.now))) _ _ _
    (c.in-Err.ensures.rows told is)

pub returns-in-Err-clause-order : goal.returns-in-Err-clause-order
returns-in-Err-clause-order g c told is =
    inl (only_of (g.F.Files.seen c.args.files.now) (g.F.Files.seen c.read_installation.new.files) c.args.tables.now told
    is c.read_installation.ensures.opens)

pub returns-in-Ok-clause-order : goal.returns-in-Ok-clause-order
returns-in-Ok-clause-order g c told is =
    let old : Seen = g.F.Files.seen c.args.files.now in
    let mid : Seen = g.F.Files.seen c.read_installation.new.files in
    let new : Seen = g.F.Files.seen c.audit_frames.new.files in
    inr (
      mid.places,
      reads_of old mid c.args.tables.now told is c.read_installation.ensures.opens
          (c.read_installation.ensures.read (search rules) told is),
      inl (only_of mid new c.args.frames.now told (c.read_installation.ensures.told ∙ is)
          c.audit_frames.ensures.opens),
    )

pub returns-in-Err-clause-opens : goal.returns-in-Err-clause-opens
returns-in-Err-clause-opens g c =
    let old : Seen = g.F.Files.seen c.args.files.now in
    let new : Seen = g.F.Files.seen c.read_installation.new.files in
    opens_no_more (c.args.tables.now ∷ []) (c.args.frames.now ∷ []) c.in-Err.status c.in-Err.status old new
    c.in-Err.ensures.not_whole
    (opens_all (c.args.tables.now ∷ []) c.in-Err.status old new c.read_installation.ensures.told
    c.read_installation.ensures.opens)

pub returns-in-Ok-clause-opens : goal.returns-in-Ok-clause-opens
returns-in-Ok-clause-opens g c =
    let old : Seen = g.F.Files.seen c.args.files.now in
    let mid : Seen = g.F.Files.seen c.read_installation.new.files in
    let new : Seen = g.F.Files.seen c.audit_frames.new.files in
    opens_then (c.args.tables.now ∷ []) (c.args.frames.now ∷ []) c.audit_frames.result old mid new
    c.read_installation.ensures.told c.read_installation.ensures.opens
    (opens_all (c.args.frames.now ∷ []) c.audit_frames.result mid new c.audit_frames.ensures.told
    c.audit_frames.ensures.opens)
