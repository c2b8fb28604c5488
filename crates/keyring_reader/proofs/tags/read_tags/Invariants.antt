use Rattle.std.proofs.Common.{◌≡◌, length}
use Rattle.tag_text.specs.Document.{outcome_of}
use Rattle.tag_text.specs.Giving.{after_tags}
use Rattle.keyring_reader.proofs.tags.read_tags.Given as goal

-- the tags so far and what is left are the whole document
abbrev pub invariant-tags : goal.invariant-tags
invariant-tags l = outcome_of l.bytes ≡ after_tags l.tags.items l.reader

abbrev pub decreases-tags : goal.decreases-tags
decreases-tags l = length l.reader.tags
