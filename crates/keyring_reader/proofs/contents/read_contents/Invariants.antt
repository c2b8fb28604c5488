use Rattle.std.proofs.Common.{◌≡◌, drop}
use Rattle.keyring_reader.specs.Contents.{Contents, contents_of}
use Rattle.keyring_reader.specs.Saying.{contents_from}
use Rattle.keyring_reader.specs.Holding.{Holds}
use Rattle.keyring_reader.proofs.KindLemmas.{elements_within}
use Rattle.keyring_reader.proofs.contents.read_contents.Given as goal

-- what was gathered, with what the elements say that are left, are the contents
abbrev pub invariant-tags : goal.invariant-tags
invariant-tags l = (c : Contents) × Holds l.gathered c
    × (contents_from l.under c (elements_within l.opened (drop l.tag-index l.tags)) ≡ contents_of l.under l.tags)
