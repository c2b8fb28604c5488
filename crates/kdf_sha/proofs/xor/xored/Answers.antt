use Rattle.std.proofs.Common.{◌≢◌, ◌<◌, length, get_or, bit_xor, arith, ap, ◌∙◌, sym, below_more, get_or-set_other, get_or-set_same}
use Rattle.std.proofs.lemmas.List.{length-set, ext_get_or}
use Rattle.kdf_sha.proofs.XorLemmas.{length-xored, get_or-xored}
use Rattle.kdf_sha.proofs.xor.xored.Goals as goal

pub octets-preserved : goal.octets-preserved
octets-preserved g c =
    let within : c.octets.i < length c.octets.both = omega arith in
    record {
      long = length-set _ _ _ ∙ c.octets.invariant.long;
      done = below_more _ _
          (λ k below. let other : k ≢ c.octets.i = omega arith in rw get_or-set_other (c.octets.invariant.done k below))
          (rw get_or-set_same (ap (λ octet. bit_xor octet (get_or c.args.right.now c.octets.i 0))
          (c.octets.invariant.left_over c.octets.i (omega arith))));
      left_over = λ k above. let other : k ≢ c.octets.i = omega arith in
          rw get_or-set_other (c.octets.invariant.left_over k (omega arith));
    }

pub returns : goal.returns
returns g c = record {
  xored = ext_get_or 0 _ _ (c.octets.invariant.long ∙ sym (length-xored c.args.left.now c.args.right.now
      (c.told-left ∙ sym c.told-right) ∙ c.told-left))
      (λ k below. c.octets.invariant.done k (omega arith) ∙ sym
      (get_or-xored c.args.left.now c.args.right.now k (omega arith) (c.told-left ∙ sym c.told-right)));
}
