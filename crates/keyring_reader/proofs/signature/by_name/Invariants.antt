use Rattle.std.proofs.Common.{◌≡◌, drop, map, fold}
use Rattle.std.specs.List.{filter}
use Rattle.keyring_reader.specs.Signed.{is_signed, placed, by_name}
use Rattle.keyring_reader.specs.Texts.{deref_texts}
use Rattle.keyring_reader.proofs.signature.by_name.Given as goal

-- those so far, with those that are left put into their places, are all
abbrev pub invariant-attributes : goal.invariant-attributes
invariant-attributes l =
    fold placed (map deref_texts l.ordered.entries) (filter is_signed (drop l.index l.attributes))
    ≡ by_name (filter is_signed l.attributes)
