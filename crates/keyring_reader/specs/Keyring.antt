-- What a keyring gives: its rows, or why it is refused. This is statement.
use Rattle.std.specs.Prelude.{◌≡◌, ℕ, if◌then◌else◌, Bool, false, List, ◌∷◌, codes, Option, Some, None, Result, Ok, Err}
use Rattle.std.specs.Option.{option_map}
use Rattle.std.specs.Str.{bytes_eq}
use Rattle.tag_text.specs.declared.tag.Tag.{Tag}
use Rattle.tag_text.specs.declared.tag.Tag.TheVariants.{Start}
use Rattle.tag_text.specs.declared.tag.TagFault.{TagFault}
use Rattle.tag_text.specs.declared.tag.TagFault.TheVariants as tag
use Rattle.tag_text.specs.Document.{events_of, document_fault}
use Rattle.key_tables.specs.declared.types.Row.{Row}
use Rattle.keyring_reader.specs.declared.attribute.Attribute.TheVariants.{Created, Signature}
use Rattle.keyring_reader.specs.declared.fault.KeyringFault.{KeyringFault}
use Rattle.keyring_reader.specs.declared.fault.KeyringFault.TheVariants as fault
use Rattle.keyring_reader.specs.Attributes.{required}
use Rattle.keyring_reader.specs.Chain.{◌>>=◌, unless}
use Rattle.keyring_reader.specs.Contents.{contents_of}
use Rattle.keyring_reader.specs.declared.keys.Wrapping.{Wrapping}
use Rattle.keyring_reader.specs.Keys.{stored_block, password_key, short_hash}
use Rattle.keyring_reader.specs.Roles.{rows_of}
use Rattle.keyring_reader.specs.Signed.{first_long, signature_of}

-- ---- the root element

pub record Root : Type 0 where
  pub attributes : List (List ℕ × List ℕ)
  pub place : ℕ

abbrev pub root_named : List ℕ → Root → Result Root KeyringFault
root_named name root = if bytes_eq name (codes "Keyring") then Ok root else Err fault.NotKeyring

abbrev pub root_of : List Tag → Result Root KeyringFault
root_of (Start name attributes place ∷ tags) = root_named name (record { attributes = attributes; place = place })
root_of _ = Err fault.NotKeyring

-- when the keyring was made, and the text of its signature
pub record Stamps : Type 0 where
  pub created : List ℕ
  pub signature : List ℕ

abbrev pub stamps_in : Root → Result Stamps KeyringFault
stamps_in root = do
  created ← required root.attributes Created root.place
  signature ← required root.attributes Signature root.place
  Ok (record { created = created; signature = signature })

abbrev pub stamps_of : List Tag → Result Stamps KeyringFault
stamps_of tags = do
  root ← root_of tags
  unless (option_map fault.LongText (first_long tags)) (stamps_in root)

-- ---- the signature

abbrev pub is_computed : List ℕ → Option (List ℕ) → Bool
is_computed computed None = false
is_computed computed (Some stored) = bytes_eq stored computed

abbrev pub signature_fault : Option (List ℕ) → List ℕ → Option KeyringFault
signature_fault stored computed = if is_computed computed stored then None else Some (fault.Signature stored computed)

-- what keys are wrapped under, which only a signature that is the computed one lets be used
abbrev pub wrapping_of : List ℕ → List Tag → Stamps → Result Wrapping KeyringFault
wrapping_of key tags stamps =
    unless (signature_fault (stored_block stamps.signature) (signature_of tags key))
    (Ok (record { key = key; vector = short_hash stamps.created }))

-- ---- the keyring

-- want of memory is the keyring's own fault
abbrev pub tag_fault : TagFault → KeyringFault
tag_fault tag.NoMemory = fault.NoMemory
tag_fault why = fault.Tag why

-- the tags of a document
unfoldable pub tags_of : List ℕ → Result (List Tag) KeyringFault
tags_of octets = unless (option_map fault.Tag (document_fault octets)) (Ok (events_of octets))

-- what the tags say to the holder of this key
unfoldable pub keyring_under : List ℕ → List Tag → Result (List Row) KeyringFault
keyring_under key tags = do
  stamps ← stamps_of tags
  under ← wrapping_of key tags stamps
  contents ← contents_of under tags
  Ok (rows_of contents)

-- what a document says to the holder of this password
unfoldable pub keyring_of : List ℕ → List ℕ → Result (List Row) KeyringFault
keyring_of octets password = do
  tags ← tags_of octets
  keyring_under (password_key password) tags

-- it is this fault that was found, or memory was wanting
abbrev pub IsFault : {A : Type 0} → KeyringFault → Result A KeyringFault → Type 0
IsFault fault.NoMemory found = Unit {0}
IsFault fault found = found ≡ Err fault
