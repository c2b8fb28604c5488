-- Plumbing: what a keyed hasher holds.
use Rattle.std.specs.Prelude.{ℕ, List}
use Rattle.sha2.specs.Hashers.{Holds256}
use Rattle.kdf_sha.specs.Hmac.{padded_key, inner_pad, outer_pad}
use Rattle.kdf_sha.specs.declared.hmac.Keyed.{Keyed}

-- the two hash states hold the key's padded blocks
pub record IsKeyed (keyed : Keyed) (key : List ℕ) : Type 0 where
  pub inner : Holds256 keyed.inner (padded_key key inner_pad)
  pub outer : Holds256 keyed.outer (padded_key key outer_pad)
