use Rattle.std.proofs.Common.{ℕ, List, ◌++◌, take, flat_map}
use Rattle.sha2.specs.Hashers.{Holds256}
use Rattle.keyring_reader.specs.Signed.{signed_tag}
use Rattle.keyring_reader.proofs.signature.sign_tags.Given as goal

-- the tags so far were signed
abbrev pub invariant-tags : goal.invariant-tags
invariant-tags l =
    (m : List ℕ) → Holds256 l.initial.hasher m → Holds256 l.hasher (m ++ flat_map signed_tag (take l.tag-index l.tags))
