use Rattle.std.proofs.Common.{◌≡◌, ◌*◌, length, take}
use Rattle.kdf_sha.specs.Pbkdf2.{blocks_of}
use Rattle.kdf_sha.proofs.pbkdf2.pbkdf2_256.Given as goal

-- the blocks so far stand in front, cut to the length
abbrev pub invariant-places : goal.invariant-places
invariant-places l = take (32 * l.index) l.out ≡ take (length l.out) (blocks_of l.password l.salt l.rounds l.index)
