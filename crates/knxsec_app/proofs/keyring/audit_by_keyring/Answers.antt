use Rattle.std.proofs.Common.{Some, [], ◌∷◌, ◌∙◌}
use Rattle.knx_base.specs.Files.{Seen}
use Rattle.knxsec_app.specs.Auditing.{keyring_rows, tables_answer}
use Rattle.knxsec_app.specs.Commands.{octets_in}
use Rattle.knxsec_app.proofs.Opened.{opens_no_more, opens_then}
use Rattle.knxsec_app.proofs.Ordered.{reads_then, opens_fewer}
use Rattle.knxsec_app.proofs.Stopping.{stops_command}
use Rattle.knxsec_app.proofs.keyring.audit_by_keyring.Goals as goal

pub returns-in-Err-clause-answer : goal.returns-in-Err-clause-answer
returns-in-Err-clause-answer g c told is =
    let names = c.args.names.now in
    stops_command (keyring_rows (octets_in told names.keyring.now) (octets_in told names.password.now))
    (λ rows. tables_answer (Some rows) (octets_in told names.tables.now) (octets_in told names.frames.now)) _ _ _
    (c.in-Err.ensures.rows told is)

pub returns-in-Err-clause-order : goal.returns-in-Err-clause-order
returns-in-Err-clause-order g c told is =
    let names = c.args.names.now in
    let old : Seen = g.F.Files.seen c.args.files.now in
    let new : Seen = g.F.Files.seen c.open_keyring.new.files in
    opens_fewer told (names.keyring.now ∷ names.password.now ∷ []) (names.tables.now ∷ names.frames.now ∷ [])
    old.places new.places (c.in-Err.ensures.order told is)

pub returns-in-Ok-clause-order : goal.returns-in-Ok-clause-order
returns-in-Ok-clause-order g c told is =
    let names = c.args.names.now in
    let old : Seen = g.F.Files.seen c.args.files.now in
    let mid : Seen = g.F.Files.seen c.open_keyring.new.files in
    let new : Seen = g.F.Files.seen c.audit.new.files in
    reads_then told (names.keyring.now ∷ names.password.now ∷ []) (names.tables.now ∷ names.frames.now ∷ [])
    old.places mid.places new.places (c.in-Ok.ensures.order told is)
    (c.audit.ensures.order told (c.open_keyring.ensures.opens.told ∙ is))

pub returns-in-Err-clause-opens : goal.returns-in-Err-clause-opens
returns-in-Err-clause-opens g c =
    let names = c.args.names.now in
    let old : Seen = g.F.Files.seen c.args.files.now in
    let new : Seen = g.F.Files.seen c.open_keyring.new.files in
    opens_no_more (names.keyring.now ∷ names.password.now ∷ []) (names.tables.now ∷ names.frames.now ∷ []) _
    c.in-Err.status old new c.in-Err.ensures.not_whole c.open_keyring.ensures.opens

pub returns-in-Ok-clause-opens : goal.returns-in-Ok-clause-opens
returns-in-Ok-clause-opens g c =
    let names = c.args.names.now in
    let old : Seen = g.F.Files.seen c.args.files.now in
    let mid : Seen = g.F.Files.seen c.open_keyring.new.files in
    let new : Seen = g.F.Files.seen c.audit.new.files in
    opens_then (names.keyring.now ∷ names.password.now ∷ []) (names.tables.now ∷ names.frames.now ∷ []) c.audit.result
    old mid new c.open_keyring.ensures.opens.told (c.in-Ok.ensures.opens.all tt) c.audit.ensures.opens
