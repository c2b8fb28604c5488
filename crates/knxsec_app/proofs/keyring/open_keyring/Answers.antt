use Rattle.std.proofs.Common.{rules, ◌≡◌, Some, ◌∙◌}
use Rattle.knx_base.specs.Files.{Seen}
use Rattle.knxsec_app.proofs.Ordered.{both_read, one_read, only_of, reads_of}
use Rattle.knxsec_app.proofs.keyring.open_keyring.Goals as goal

pub returns-in_err-password-clause-order : goal.returns-in_err-password-clause-order
returns-in_err-password-clause-order g c told is =
    let names = c.args.names.now in
    let old : Seen = g.F.Files.seen c.args.files.now in
    let mid : Seen = g.F.Files.seen c.read.new.files in
    let new : Seen = g.F.Files.seen c.read-2.new.files in
    one_read told names.keyring.now names.password.now old.places mid.places new.places
    c.from_residual-in_err-password.result c.from_residual-in_err-password.ensures.0
    (reads_of old mid names.keyring.now told is c.read.ensures.opens (c.read.ensures.read (search rules) told is))
    (only_of mid new names.password.now told (c.read.ensures.told ∙ is) c.read-2.ensures.opens)

pub returns-clause-order : goal.returns-clause-order
returns-clause-order g c told is =
    let names = c.args.names.now in
    let old : Seen = g.F.Files.seen c.args.files.now in
    let mid : Seen = g.F.Files.seen c.read.new.files in
    let new : Seen = g.F.Files.seen c.read-2.new.files in
    let told_later : mid.told ≡ Some told = c.read.ensures.told ∙ is in
    both_read told names.keyring.now names.password.now old.places mid.places new.places c.opened.result
    (reads_of old mid names.keyring.now told is c.read.ensures.opens (c.read.ensures.read (search rules) told is))
    (reads_of mid new names.password.now told told_later c.read-2.ensures.opens
    (c.read-2.ensures.read (search rules) told told_later))
