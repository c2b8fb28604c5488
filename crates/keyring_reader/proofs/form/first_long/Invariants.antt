use Rattle.std.proofs.Common.{◌≡◌, drop}
use Rattle.keyring_reader.specs.Signed.{first_long}
use Rattle.keyring_reader.proofs.form.first_long.Given as goal

-- those so far have no long text
abbrev pub invariant-tags : goal.invariant-tags
invariant-tags l = first_long l.tags ≡ first_long (drop l.tag-index l.tags)
