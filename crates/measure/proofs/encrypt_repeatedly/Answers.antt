use Rattle.std.proofs.Common.{◌≡◌, suc, ◌+◌, refl, ap, ◌∙◌, arith}
use Rattle.aes_modes.specs.Cipher.{cipher}
use Rattle.measure.specs.Repeated.{cipher_repeated}
use Rattle.measure.proofs.encrypt_repeatedly.Goals as goal

pub each-init : goal.each-init
unfolding cipher_repeated
each-init c = refl

pub each-preserved : goal.each-preserved
unfolding cipher_repeated
each-preserved c =
    c.encrypt_block.ensures
    ∙ ap (cipher c.args.key.now) c.each.invariant
    ∙ ap (cipher_repeated c.args.key.now c.args.block.now) (let next : suc c.each.counter ≡ c.each.counter
    + 1 = omega arith in next)
