use Rattle.std.proofs.Common.{◌≡◌, ◌++◌, List, flat_map}
use Rattle.keyring_reader.specs.declared.said.Listing.{Listing}
use Rattle.keyring_reader.specs.Roles.{group_roles}
use Rattle.keyring_reader.specs.Holding.{AreListed}
use Rattle.keyring_reader.proofs.roles.push_groups.Given as goal

-- the rows so far and those of the groups that are left are all
abbrev pub invariant-groups : goal.invariant-groups
invariant-groups l = (listings : List Listing) → AreListed l.senders listings
    → l.rows.items ++ flat_map (group_roles listings) l.group-iterator ≡ l.initial.rows.items
    ++ flat_map (group_roles listings) l.groups.keys
