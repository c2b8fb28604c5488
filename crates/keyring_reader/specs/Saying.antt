-- What the elements of a keyring say, taken one after the other as the reader takes them: plumbing for proofs.
use Rattle.std.specs.Prelude.{ℕ, if◌then◌else◌, List, [], ◌∷◌, ◌++◌, codes, Option, Some, None, Result, Ok, Err}
use Rattle.std.specs.Option.{option_to_list, ok_or, unwrap_or}
use Rattle.knx_base.specs.declared.address.GroupAddr.{GroupAddr}
use Rattle.knx_base.specs.declared.address.IndAddr.{IndAddr}
use Rattle.tag_text.specs.Attributes.{value_named}
use Rattle.key_tables.specs.declared.types.Channel.{Channel}
use Rattle.key_tables.specs.declared.types.Channel.TheVariants as channel
use Rattle.key_tables.specs.declared.types.Level.TheVariants.{Auth}
use Rattle.key_tables.specs.declared.types.Row.{Row}
use Rattle.key_tables.specs.declared.types.Row.TheVariants as row
use Rattle.key_tables.specs.Rows.{has_key}
use Rattle.keyring_reader.specs.declared.attribute.Attribute.TheVariants.{Address, Key, IndividualAddress}
use Rattle.keyring_reader.specs.declared.fault.KeyringFault.{KeyringFault}
use Rattle.keyring_reader.specs.declared.fault.KeyringFault.TheVariants as fault
use Rattle.keyring_reader.specs.declared.said.Said.{Said}
use Rattle.keyring_reader.specs.declared.said.Said.TheVariants.{Nothing, GroupKey, ToolKey, Lists}
use Rattle.keyring_reader.specs.declared.keys.Wrapping.{Wrapping}
use Rattle.keyring_reader.specs.declared.kind.Kind.{Kind}
use Rattle.keyring_reader.specs.declared.kind.Kind.TheVariants as kind
use Rattle.keyring_reader.specs.Chain.{◌>>=◌}
use Rattle.keyring_reader.specs.Attributes.{name_of, required}
use Rattle.keyring_reader.specs.Keys.{key_named}
use Rattle.keyring_reader.specs.Kinds.{device_named, group_named}
use Rattle.keyring_reader.specs.Elements.{Element, words_of}
use Rattle.keyring_reader.specs.Contents.{Contents}

-- ---- the texts of an element at a place

abbrev pub device_at : ℕ → List ℕ → Result IndAddr KeyringFault
device_at place text = ok_or (device_named text) (fault.Address place)

abbrev pub group_at : ℕ → List ℕ → Result GroupAddr KeyringFault
group_at place text = ok_or (group_named text) (fault.Address place)

abbrev pub key_at : Wrapping → ℕ → List ℕ → Result (List ℕ) KeyringFault
key_at under place text = ok_or (key_named under text) (fault.Key place)

-- the addresses that the words are
abbrev pub devices_at : ℕ → List (List ℕ) → Result (List IndAddr) KeyringFault
devices_at place [] = Ok []
devices_at place (word ∷ words) = do
  device ← device_at place word
  devices ← devices_at place words
  Ok (device ∷ devices)

-- the interface's own address, if it has one, and the addresses of the text
abbrev pub senders_at : Option IndAddr → ℕ → List ℕ → Result (List IndAddr) KeyringFault
senders_at own place text = do
  devices ← devices_at place (words_of text)
  Ok (option_to_list own ++ devices)

-- ---- the elements of each kind

abbrev pub listing_says : Option IndAddr → List (List ℕ × List ℕ) → ℕ → Result Said KeyringFault
listing_says own attributes place = do
  address ← required attributes Address place
  group ← group_at place address
  senders ← senders_at own place (unwrap_or (value_named attributes (codes "Senders")) [])
  Ok (Lists (record { group = group; senders = senders }))

abbrev pub group_says : Wrapping → List (List ℕ × List ℕ) → ℕ → Result Said KeyringFault
group_says under attributes place = do
  address ← required attributes Address place
  text ← required attributes Key place
  group ← group_at place address
  key ← key_at under place text
  Ok (GroupKey group key)

abbrev pub tool_says : Wrapping → List (List ℕ × List ℕ) → ℕ → List ℕ → Result Said KeyringFault
tool_says under attributes place text = do
  address ← required attributes IndividualAddress place
  device ← device_at place address
  key ← key_at under place text
  Ok (ToolKey device key)

abbrev pub said_of : {A : Type 0} → Option A → (A → Result Said KeyringFault) → Result Said KeyringFault
said_of None said = Ok Nothing
said_of (Some x) said = said x

abbrev pub address_says : ℕ → List ℕ → Result Said KeyringFault
address_says place text = do
  device ← device_at place text
  Ok Nothing

-- an interface may have an address
abbrev pub interface_says : List (List ℕ × List ℕ) → ℕ → Result Said KeyringFault
interface_says attributes place = said_of (value_named attributes (name_of IndividualAddress)) (address_says place)

-- a device may have a tool key
abbrev pub device_says : Wrapping → List (List ℕ × List ℕ) → ℕ → Result Said KeyringFault
device_says under attributes place =
    said_of (value_named attributes (codes "ToolKey")) (tool_says under attributes place)

-- what an element of this kind says, with these attributes at this place
unfoldable pub says : Wrapping → Kind → List (List ℕ × List ℕ) → ℕ → Result Said KeyringFault
says under (kind.Interface own) attributes place = interface_says attributes place
says under (kind.Listing own) attributes place = listing_says own attributes place
says under kind.GroupKey attributes place = group_says under attributes place
says under kind.Device attributes place = device_says under attributes place
says under _ attributes place = Ok Nothing

-- with the row of a channel's key; no channel has two
abbrev pub with_key : Contents → ℕ → Channel → Row → Result Contents KeyringFault
with_key now place channel row =
    if has_key now.rows channel then Err (fault.Twice place)
    else Ok (record { rows = now.rows ++ row ∷ []; listings = now.listings })

-- with what the element at a place says
abbrev pub taken : Contents → ℕ → Said → Result Contents KeyringFault
taken now place Nothing = Ok now
taken now place (GroupKey group key) = with_key now place (channel.Group group) (row.Group group key Auth)
taken now place (ToolKey device key) = with_key now place (channel.Tool device) (row.Tool device key)
taken now place (Lists listing) = Ok (record { rows = now.rows; listings = now.listings ++ listing ∷ [] })

-- with what the element says
abbrev pub with_element : Wrapping → Contents → Element → Result Contents KeyringFault
with_element under now element = do
  said ← says under element.kind element.attributes element.place
  taken now element.place said

-- with what these elements say, up to the first that is refused
abbrev pub contents_from : Wrapping → Contents → List Element → Result Contents KeyringFault
contents_from under now [] = Ok now
contents_from under now (element ∷ elements) = do
  next ← with_element under now element
  contents_from under next elements
