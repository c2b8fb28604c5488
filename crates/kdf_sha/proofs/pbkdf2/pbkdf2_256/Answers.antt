use Rattle.std.proofs.Common.{◌≡◌, ◌*◌, ◌<◌, length, arith}
use Rattle.std.specs.Int.{div_ceil}
use Rattle.kdf_sha.specs.Pbkdf2.{pbkdf2_of}
use Rattle.kdf_sha.proofs.Pbkdf2Lemmas.{blocks_more, blocks_all}
use Rattle.kdf_sha.proofs.pbkdf2.pbkdf2_256.Goals as goal

pub places-preserved : goal.places-preserved
places-preserved c =
    let below : 32 * c.places.index < length c.places.out = omega (arith, c.div_ceil-index-end.ensures) in
    blocks_more c.args.password.now c.args.salt.now c.args.rounds c.places.index c.places.out _ _ below
    (c.derived_block-block.ensures.block c.args.password.now c.new-keyed.ensures.keyed) c.places.invariant
    c.put_block.ensures.put (omega arith)

pub returns : goal.returns
unfolding pbkdf2_of
returns c = record {
  derived =
      let end : c.places.index ≡ div_ceil (length c.args.out.now) 32 = omega (arith, c.div_ceil-index-end.ensures) in
      blocks_all c.args.password.now c.args.salt.now c.args.rounds c.places.index _ c.places.out end c.places.auto.out
      c.places.invariant;
}
