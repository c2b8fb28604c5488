-- The keys of a keyring: the key that a password gives, and the keys that are stored under it. This is statement.
use Rattle.std.specs.Prelude.{◌≡◌, ℕ, List, codes, take, Option}
use Rattle.std.specs.Option.{option_and_then}
use Rattle.std.specs.Str.{bytes_eq}
use Rattle.base64.specs.Engines.{standard}
use Rattle.base64.specs.GeneralPurpose.{encode_of}
use Rattle.sha2.specs.Sha256.{sha256}
use Rattle.aes_modes.specs.Cipher.{IsBlock}
use Rattle.aes_modes.specs.Modes.{cbc_of}
use Rattle.kdf_sha.specs.Pbkdf2.{pbkdf2_of}
use Rattle.keyring_reader.specs.declared.keys.Wrapping.{Wrapping}
use Rattle.keyring_reader.specs.Blocks.{first_block}

-- the base64 (RFC 4648, section 4) of these octets
abbrev pub base64_of : List ℕ → List ℕ
base64_of octets = encode_of standard octets

-- the sixteen octets whose base64 the text is
unfoldable pub stored_block : List ℕ → Option (List ℕ)
stored_block text = first_block (λ block. bytes_eq (base64_of block) text)

abbrev pub salt : List ℕ
salt = codes "1.keyring.ets.knx.org"

-- the key of a password: sixteen octets, in 65,536 rounds
unfoldable pub password_key : List ℕ → List ℕ
password_key password = pbkdf2_of password salt 65536 16

-- the first sixteen octets of the hash
unfoldable pub short_hash : List ℕ → List ℕ
short_hash octets = take 16 (sha256 octets)

-- the block whose CBC is the wrapped one
unfoldable pub unwrapped : List ℕ → List ℕ → List ℕ → Option (List ℕ)
unwrapped key vector wrapped = first_block (λ plain. bytes_eq (cbc_of key vector plain) wrapped)

-- the key that is stored as this text
abbrev pub key_named : Wrapping → List ℕ → Option (List ℕ)
key_named under text = option_and_then (unwrapped under.key under.vector) (stored_block text)

-- ---- texts of blocks and of keys

-- the text is the base64 of this block
pub record IsBlockText (block text : List ℕ) : Type 0 where
  pub is_block : IsBlock block
  pub encodes : base64_of block ≡ text

-- a key and a vector of sixteen octets each
pub record IsWrapping (under : Wrapping) : Type 0 where
  pub is_key : IsBlock under.key
  pub is_vector : IsBlock under.vector

-- the text is the base64 of the CBC of this key
pub record IsKeyText (under : Wrapping) (key text : List ℕ) : Type 0 where
  pub is_block : IsBlock key
  pub wraps : base64_of (cbc_of under.key under.vector key) ≡ text
