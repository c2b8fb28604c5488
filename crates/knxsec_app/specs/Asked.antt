-- Plumbing: what the program's own command asks for.
use Rattle.std.specs.Prelude.{List, Option}
use Rattle.std.specs.Option.{option_map}
use Rattle.std.specs.Borrow.{Bor}
use Rattle.key_tables.specs.declared.types.Row.{Row}
use Rattle.knxsec_app.specs.declared.words.Command.{Command}
use Rattle.knxsec_app.specs.declared.words.Command.TheVariants as command
use Rattle.knxsec_app.specs.Words.{Asked, Open, Audit, AuditKeyring, Replay, Make, AuditValues, Encode}

abbrev pub asked_of : Command → Asked
asked_of (command.Open key frame) = Open key frame
asked_of (command.Audit tables frames) = Audit tables.now frames.now
asked_of (command.AuditKeyring names) =
    AuditKeyring names.keyring.now names.password.now names.tables.now names.frames.now
asked_of (command.Replay script) = Replay script.now
asked_of (command.Make number count) = Make number count
asked_of (command.AuditValues names) = AuditValues names.tables.now names.types.now names.frames.now
asked_of (command.Encode dpt text) = Encode dpt text.now

-- the rows that are lent, where there are any
abbrev pub rows_of : Option (Bor (List Row)) → Option (List Row)
rows_of under = option_map (λ rows. rows.now) under
