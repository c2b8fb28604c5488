use Rattle.std.proofs.Common.{ℕ, length}
use Rattle.std.proofs.lemmas.List.{drop-replicate}
use Rattle.kdf_sha.proofs.hmac.filled.Goals as goal

pub returns : goal.returns
returns c = record {
  filled = let zeros = drop-replicate {X = ℕ} (length c.args.key.now) 64 0 in
      cc (zeros, c.split_at_mut-front.ensures.back, c.copy_from_slice.ensures.after);
}
