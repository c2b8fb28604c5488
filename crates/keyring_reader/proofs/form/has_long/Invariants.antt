use Rattle.std.proofs.Common.{◌≡◌, drop}
use Rattle.std.specs.List.{list_any, filter}
use Rattle.keyring_reader.specs.Signed.{is_signed, is_long_attribute}
use Rattle.keyring_reader.proofs.form.has_long.Given as goal

-- those so far are not signed, or not long
abbrev pub invariant-attributes : goal.invariant-attributes
invariant-attributes l =
    list_any is_long_attribute (filter is_signed l.attributes)
    ≡ list_any is_long_attribute (filter is_signed (drop l.index l.attributes))
