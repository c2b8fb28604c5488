-- Statement: HMAC-SHA-256: the keyed hash of RFC 2104, section 2, over the SHA-256 of FIPS 180-4.
use Rattle.std.specs.Prelude.{ℕ, ◌-◌, nat_lt, if◌then◌else◌, List, ◌++◌, length, replicate}
use Rattle.kdf_sha.specs.Xor.{xored}
use Rattle.sha2.specs.Sha256.{sha256}

-- the octets of a block of SHA-256
abbrev pub block_octets : ℕ
block_octets = 64

-- the octet that is repeated to make ipad
abbrev pub inner_pad : ℕ
inner_pad = 0x36

-- the octet that is repeated to make opad
abbrev pub outer_pad : ℕ
outer_pad = 0x5C

-- a key of a block at most stands for itself, a longer one is hashed
abbrev pub short_key : List ℕ → List ℕ
short_key key = if nat_lt block_octets (length key) then sha256 key else key

-- K: the key as one block, with zeros appended
unfoldable pub key_block : List ℕ → List ℕ
key_block key = short_key key ++ replicate (block_octets - length (short_key key)) 0

-- K XOR the block of this octet repeated
abbrev pub padded_key : List ℕ → ℕ → List ℕ
padded_key key pad = xored (key_block key) (replicate block_octets pad)

-- H(K XOR opad, H(K XOR ipad, text))
unfoldable pub hmac_of : List ℕ → List ℕ → List ℕ
hmac_of key text = sha256 (padded_key key outer_pad ++ sha256 (padded_key key inner_pad ++ text))
