use Rattle.std.proofs.Common.{◌≡◌, ◌++◌, map}
use Rattle.keyring_reader.specs.Roles.{commands}
use Rattle.keyring_reader.proofs.roles.push_commands.Given as goal

-- the rows so far and those of the senders that are left are all
abbrev pub invariant-senders : goal.invariant-senders
invariant-senders l =
    l.rows.items ++ map (commands l.group) l.sender-iterator ≡ l.initial.rows.items
    ++ map (commands l.group) l.senders.keys
