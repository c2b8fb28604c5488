-- The elements of a keyring in the order of the document, and what each says by itself. This is statement.
use Rattle.std.specs.Prelude.{ℕ, ◌==◌, not, Bool, List, [], ◌∷◌, ◌++◌, codes, Option, None}
use Rattle.std.specs.Option.{option_map, option_and_then, option_zip, option_to_list, unwrap_or}
use Rattle.std.specs.List.{filter, filter_map, slice_split}
use Rattle.knx_base.specs.declared.address.GroupAddr.{GroupAddr}
use Rattle.knx_base.specs.declared.address.IndAddr.{IndAddr}
use Rattle.tag_text.specs.declared.tag.Tag.{Tag}
use Rattle.tag_text.specs.declared.tag.Tag.TheVariants.{Start, End, Finish}
use Rattle.tag_text.specs.Attributes.{value_named}
use Rattle.tag_text.specs.Document.{is_empty}
use Rattle.key_tables.specs.declared.types.Channel.{Channel}
use Rattle.key_tables.specs.declared.types.Channel.TheVariants as channel
use Rattle.key_tables.specs.declared.types.Level.TheVariants.{Auth}
use Rattle.key_tables.specs.declared.types.Row.{Row}
use Rattle.key_tables.specs.declared.types.Row.TheVariants as row
use Rattle.keyring_reader.specs.declared.said.Listing.{Listing}
use Rattle.keyring_reader.specs.declared.keys.Wrapping.{Wrapping}
use Rattle.keyring_reader.specs.declared.kind.Kind.{Kind}
use Rattle.keyring_reader.specs.declared.kind.Kind.TheVariants as kind
use Rattle.keyring_reader.specs.Keys.{key_named}
use Rattle.keyring_reader.specs.Kinds.{Named, device_named, group_named, own_address, kind_at}

-- an element, with the kind that its path tells, and the place of its `<`
pub record Element : Type 0 where
  pub kind : Kind
  pub attributes : List (List ℕ × List ℕ)
  pub place : ℕ

-- the elements around the first of these
abbrev pub outside : {A : Type 0} → List A → List A
outside [] = []
outside (element ∷ outer) = outer

-- the elements that tags begin, in order, inside of these
abbrev pub elements_in : List Named → List Tag → List Element
elements_in outer [] = []
elements_in outer (Start name attributes place ∷ tags) =
    let opened = record { name = name; attributes = attributes } ∷ outer in
    record { kind = kind_at opened; attributes = attributes; place = place } ∷ elements_in opened tags
elements_in outer (End place ∷ tags) = elements_in (outside outer) tags
elements_in outer (Finish ∷ tags) = elements_in outer tags

-- the elements of a document
abbrev pub elements_of : List Tag → List Element
elements_of tags = elements_in [] tags

-- ---- what an element's attributes name

abbrev pub text_of : List ℕ → Element → Option (List ℕ)
text_of name element = value_named element.attributes name

abbrev pub group_in : Element → Option GroupAddr
group_in element = option_and_then group_named (text_of (codes "Address") element)

abbrev pub device_in : Element → Option IndAddr
device_in element = own_address element.attributes

-- the key that is stored in the attribute of this name
abbrev pub key_in : Wrapping → List ℕ → Element → Option (List ℕ)
key_in under name element = option_and_then (key_named under) (text_of name element)

abbrev pub is_word : List ℕ → Bool
is_word text = not (is_empty text)

-- the words of a text, with one or more spaces between them
abbrev pub words_of : List ℕ → List (List ℕ)
words_of text = filter is_word (slice_split (λ octet. octet == 32) text)

-- the words of `Senders`, none where there is no such attribute
abbrev pub sender_words : Element → List (List ℕ)
sender_words element = words_of (unwrap_or (text_of (codes "Senders") element) [])

-- ---- what an element of each kind says

-- the key row of a group, or of a device with a tool key
abbrev pub key_row_of : Kind → Wrapping → Element → Option Row
key_row_of kind.GroupKey under element =
    option_map (λ both. row.Group both.0 both.1 Auth)
    (option_zip (group_in element) (key_in under (codes "Key") element))
key_row_of kind.Device under element =
    option_map (λ both. row.Tool both.0 both.1)
    (option_zip (device_in element) (key_in under (codes "ToolKey") element))
key_row_of _ under element = None

-- an interface lists a group, with its own address, if it has one, and then the senders that it names
abbrev pub listing_of : Kind → Element → Option Listing
listing_of (kind.Listing own) element =
    option_map (λ group. record {
      group = group;
      senders = option_to_list own ++ filter_map device_named (sender_words element);
    }) (group_in element)
listing_of _ element = None

-- the channel whose key an element has
abbrev pub channel_of : Kind → Element → Option Channel
channel_of kind.GroupKey element = option_map channel.Group (group_in element)
channel_of kind.Device element = option_map channel.Tool (device_in element)
channel_of _ element = None

-- the key rows of the elements that have one, and the listings of those that list, each in order
abbrev pub key_rows : Wrapping → List Element → List Row
key_rows under elements = filter_map (λ element. key_row_of element.kind under element) elements

abbrev pub listings_in : List Element → List Listing
listings_in elements = filter_map (λ element. listing_of element.kind element) elements
