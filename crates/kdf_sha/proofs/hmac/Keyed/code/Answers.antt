use Rattle.std.proofs.Common.{arith}
use Rattle.std.proofs.lemmas.List.{append-nil}
use Rattle.kdf_sha.specs.Hmac.{hmac_of}
use Rattle.kdf_sha.proofs.hmac.Keyed.code.Goals as goal

pub returns : goal.returns
unfolding hmac_of
returns c = record {
  code = λ key is. grind (
    arith,
    append-nil,
    c.digest_from-inner.ensures.digest _ is.inner,
    c.digest_from.ensures.digest
        _ is.outer,
  );
}
