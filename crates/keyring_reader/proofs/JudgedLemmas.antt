-- What elements say, taken one after the other, is what each says by itself, up to the first that is refused.
use Rattle.std.proofs.Common.{◌≡◌, ℕ, Bool, true, false, cond, ◌&&◌, codes, List, [], ◌∷◌, ◌++◌, Option, Some, None, Result, Ok, Err, refl, sym, ap, ◌∙◌, append-nil, filter_map}
use Rattle.std.specs.Option.{ok_or, option_or, option_map, option_and_then, option_zip, option_to_list, is_some}
use Rattle.std.specs.List.{list_all, cons_option}
use Rattle.std.proofs.lemmas.List.{append_assoc}
use Rattle.std.proofs.lemmas.List.Elements.{filter_map-append}
use Rattle.knx_base.specs.declared.address.GroupAddr.{GroupAddr}
use Rattle.knx_base.specs.declared.address.IndAddr.{IndAddr}
use Rattle.tag_text.specs.declared.tag.Tag.{Tag}
use Rattle.tag_text.specs.Attributes.{value_named}
use Rattle.key_tables.specs.First.{first_of}
use Rattle.key_tables.specs.Rows.{has_key}
use Rattle.key_tables.specs.declared.types.Channel.TheVariants as channel
use Rattle.key_tables.specs.declared.types.Level.TheVariants.{Auth}
use Rattle.key_tables.specs.declared.types.Row.{Row}
use Rattle.key_tables.specs.declared.types.Row.TheVariants as row
use Rattle.keyring_reader.specs.declared.attribute.Attribute.TheVariants.{Address, Key, IndividualAddress}
use Rattle.keyring_reader.specs.declared.fault.KeyringFault.{KeyringFault}
use Rattle.keyring_reader.specs.declared.fault.KeyringFault.TheVariants as fault
use Rattle.keyring_reader.specs.declared.keys.Wrapping.{Wrapping}
use Rattle.keyring_reader.specs.declared.kind.Kind.{Kind}
use Rattle.keyring_reader.specs.declared.kind.Kind.TheVariants as kind
use Rattle.keyring_reader.specs.declared.said.Listing.{Listing}
use Rattle.keyring_reader.specs.declared.said.Said.TheVariants.{Nothing, GroupKey, ToolKey, Lists}
use Rattle.keyring_reader.specs.Chain.{◌>>=◌, unless}
use Rattle.keyring_reader.specs.Attributes.{name_of}
use Rattle.keyring_reader.specs.Keys.{key_named}
use Rattle.keyring_reader.specs.Kinds.{device_named, group_named}
use Rattle.keyring_reader.specs.Elements.{Element, elements_in, key_row_of, listing_of, sender_words}
use Rattle.keyring_reader.specs.Refusals.{if_none, if_keyed, where_there, is_device, causes_of, first_cause, element_fault, first_refusal}
use Rattle.keyring_reader.specs.Contents.{Contents, contents_in, contents_of}
use Rattle.keyring_reader.specs.Saying.{group_at, device_at, key_at, devices_at, address_says, said_of, says, taken, with_element, contents_from}

-- ---- one more element

-- with a key row and a listing, where there are such
abbrev grown : Contents → Option Row → Option Listing → Contents
grown now row listing = record {
  rows = now.rows ++ option_to_list row;
  listings = now.listings ++ option_to_list listing;
}

alone : {B : Type 0} (found : Option B) → cons_option found [] ≡ option_to_list found
alone None = refl
alone (Some x) = refl

one_more : {A B : Type 0} (f : A → Option B) (xs : List A) (x : A)
    → filter_map f (xs ++ x ∷ []) ≡ filter_map f xs ++ option_to_list (f x)
one_more {A} {B} f xs x =
    filter_map-append f xs (x ∷ []) ∙ ap (λ (ys : List B). filter_map f xs ++ ys) (alone (f x))

in_more : (under : Wrapping) (before : List Element) (e : Element) → contents_in under (before ++ e ∷ [])
    ≡ grown (contents_in under before) (key_row_of e.kind under e) (listing_of e.kind e)
in_more under before e = λ i. record {
  rows = one_more (λ (x : Element). key_row_of x.kind under x) before e i;
  listings = one_more (λ (x : Element). listing_of x.kind x) before e i;
}

-- what is there then, unless the element is refused
abbrev answer : Contents → Option KeyringFault → Option Row → Option Listing → Result Contents KeyringFault
answer now why row listing = unless why (Ok (grown now row listing))

same : (now : Contents) → Ok now ≡ answer now None None None
same now = λ i. Ok (record { rows = sym (append-nil now.rows) i; listings = sym (append-nil now.listings) i })

-- ---- an interface

own_read : (now : Contents) (place : ℕ) (device : Option IndAddr)
    → ((ok_or device (fault.Address place) >>= (λ d. Ok Nothing)) >>= taken now place)
    ≡ answer now (first_cause (if_none device (fault.Address place) ∷ [])) None None
own_read now place None = refl
own_read now place (Some d) = same now

interface_read : (now : Contents) (place : ℕ) (address : Option (List ℕ))
    → (said_of address (address_says place) >>= taken now place)
    ≡ answer now (first_cause (where_there address (if_none (option_and_then device_named address) (fault.Address place)
    ∷ []))) None None
interface_read now place None = same now
interface_read now place (Some text) = own_read now place (device_named text)

-- ---- a key

new_row : (known : Bool) (now : Contents) (place : ℕ) (row : Row)
    → cond known (Err (fault.Twice place)) (Ok (record { rows = now.rows ++ row ∷ []; listings = now.listings }))
    ≡ answer now (first_cause (cond known (Some (fault.Twice place)) None ∷ [])) (Some row) None
new_row true now place row = refl
new_row false now place row =
    λ i. Ok (record { rows = now.rows ++ row ∷ []; listings = sym (append-nil now.listings) i })

group_read : (now : Contents) (place : ℕ) (group : Option GroupAddr) (key : Option (List ℕ))
    → ((ok_or group (fault.Address place) >>= (λ g. ok_or key (fault.Key place) >>= (λ k. Ok (GroupKey g k))))
    >>= taken now place)
    ≡ answer now (first_cause (if_none group (fault.Address place) ∷ if_none key (fault.Key place)
    ∷ if_keyed now.rows (option_map channel.Group group) (fault.Twice place) ∷ []))
    (option_map (λ both. row.Group both.0 both.1 Auth) (option_zip group key)) None
group_read now place None key = refl
group_read now place (Some g) None = refl
group_read now place (Some g) (Some k) =
    new_row (has_key now.rows (channel.Group g)) now place (row.Group g k Auth)

group_texts : (under : Wrapping) (now : Contents) (place : ℕ) (address text : Option (List ℕ))
    → ((ok_or address (fault.Missing Address place) >>= (λ a. ok_or text (fault.Missing Key place) >>= (λ t.
    group_at place a >>= (λ g. key_at under place t >>= (λ k. Ok (GroupKey g k)))))) >>= taken now place)
    ≡ answer now (first_cause (if_none address (fault.Missing Address place)
    ∷ if_none text (fault.Missing Key place)
    ∷ if_none (option_and_then group_named address) (fault.Address place)
    ∷ if_none (option_and_then (key_named under) text) (fault.Key place)
    ∷ if_keyed now.rows (option_map channel.Group (option_and_then group_named address)) (fault.Twice place) ∷ []))
    (option_map (λ both. row.Group both.0 both.1 Auth)
    (option_zip (option_and_then group_named address) (option_and_then (key_named under) text))) None
group_texts under now place None text = refl
group_texts under now place (Some a) None = refl
group_texts under now place (Some a) (Some t) = group_read now place (group_named a) (key_named under t)

tool_read : (now : Contents) (place : ℕ) (device : Option IndAddr) (key : Option (List ℕ))
    → ((ok_or device (fault.Address place) >>= (λ d. ok_or key (fault.Key place) >>= (λ k. Ok (ToolKey d k))))
    >>= taken now place)
    ≡ answer now (first_cause (if_none device (fault.Address place) ∷ if_none key (fault.Key place)
    ∷ if_keyed now.rows (option_map channel.Tool device) (fault.Twice place) ∷ []))
    (option_map (λ both. row.Tool both.0 both.1) (option_zip device key)) None
tool_read now place None key = refl
tool_read now place (Some d) None = refl
tool_read now place (Some d) (Some k) = new_row (has_key now.rows (channel.Tool d)) now place (row.Tool d k)

-- a device without a tool key, whatever its address
no_tool : (now : Contents) (device : Option IndAddr)
    → Ok now ≡ answer now None (option_map (λ both. row.Tool both.0 both.1) (option_zip device None)) None
no_tool now None = same now
no_tool now (Some d) = same now

tool_texts : (under : Wrapping) (now : Contents) (place : ℕ) (address text : Option (List ℕ))
    → (said_of text (λ t. ok_or address (fault.Missing IndividualAddress place) >>= (λ a.
    device_at place a >>= (λ d. key_at under place t >>= (λ k. Ok (ToolKey d k))))) >>= taken now place)
    ≡ answer now (first_cause (where_there text (if_none address (fault.Missing IndividualAddress place)
    ∷ if_none (option_and_then device_named address) (fault.Address place)
    ∷ if_none (option_and_then (key_named under) text) (fault.Key place)
    ∷ if_keyed now.rows (option_map channel.Tool (option_and_then device_named address)) (fault.Twice place) ∷ [])))
    (option_map (λ both. row.Tool both.0 both.1)
    (option_zip (option_and_then device_named address) (option_and_then (key_named under) text))) None
tool_texts under now place address None = no_tool now (option_and_then device_named address)
tool_texts under now place None (Some t) = refl
tool_texts under now place (Some a) (Some t) = tool_read now place (device_named a) (key_named under t)

-- ---- a listing

-- the words, where all are addresses
abbrev all_or : Bool → List IndAddr → ℕ → Result (List IndAddr) KeyringFault
all_or all devices place = cond all (Ok devices) (Err (fault.Address place))

one_after : (all : Bool) (place : ℕ) (device : IndAddr) (devices : List IndAddr)
    → (all_or all devices place >>= (λ later. Ok (device ∷ later))) ≡ all_or all (device ∷ devices) place
one_after true place device devices = refl
one_after false place device devices = refl

word_read : (place : ℕ) (device : Option IndAddr) (found : Result (List IndAddr) KeyringFault) (all : Bool)
    (devices : List IndAddr) → found ≡ all_or all devices place
    → (ok_or device (fault.Address place) >>= (λ d. found >>= (λ later. Ok (d ∷ later))))
    ≡ all_or (is_some device && all) (cons_option device devices) place
word_read place None found all devices is = refl
word_read place (Some d) found all devices is =
    ap (λ (r : Result (List IndAddr) KeyringFault). r >>= (λ later. Ok (d ∷ later))) is ∙ one_after all place d devices

words_read : (place : ℕ) (words : List (List ℕ))
    → devices_at place words ≡ all_or (list_all is_device words) (filter_map device_named words) place
words_read place [] = refl
words_read place (word ∷ words) =
    word_read place (device_named word) (devices_at place words) (list_all is_device words)
    (filter_map device_named words) (words_read place words)

listing_read : (now : Contents) (place : ℕ) (group : Option GroupAddr) (own devices : List IndAddr) (all : Bool)
    → ((ok_or group (fault.Address place) >>= (λ g. (all_or all devices place >>= (λ d. Ok (own ++ d))) >>= (λ s.
    Ok (Lists (record { group = g; senders = s }))))) >>= taken now place)
    ≡ answer now (first_cause (if_none group (fault.Address place) ∷ cond all None (Some (fault.Address place)) ∷ []))
    None (option_map (λ g. record { group = g; senders = own ++ devices }) group)
listing_read now place None own devices all = refl
listing_read now place (Some g) own devices true =
    λ i. Ok (record {
      rows = sym (append-nil now.rows) i;
      listings = now.listings ++ record { group = g; senders = own ++ devices } ∷ [];
    })
listing_read now place (Some g) own devices false = refl

listing_texts : (now : Contents) (place : ℕ) (address : Option (List ℕ)) (own devices : List IndAddr) (all : Bool)
    → ((ok_or address (fault.Missing Address place) >>= (λ a. group_at place a >>= (λ g.
    (all_or all devices place >>= (λ d. Ok (own ++ d))) >>= (λ s. Ok (Lists (record { group = g; senders = s }))))))
    >>= taken now place)
    ≡ answer now (first_cause (if_none address (fault.Missing Address place)
    ∷ if_none (option_and_then group_named address) (fault.Address place)
    ∷ cond all None (Some (fault.Address place)) ∷ []))
    None (option_map (λ g. record { group = g; senders = own ++ devices }) (option_and_then group_named address))
listing_texts now place None own devices all = refl
listing_texts now place (Some a) own devices all = listing_read now place (group_named a) own devices all

-- ---- any element

by_kind : (kind : Kind) (under : Wrapping) (before : List Element) (e : Element)
    → (says under kind e.attributes e.place >>= taken (contents_in under before) e.place)
    ≡ answer (contents_in under before) (first_cause (causes_of kind under before e)) (key_row_of kind under e)
    (listing_of kind e)
unfolding says
by_kind (kind.Interface own) under before e =
    interface_read (contents_in under before) e.place (value_named e.attributes (name_of IndividualAddress))
by_kind (kind.Listing own) under before e =
    ap (λ (found : Result (List IndAddr) KeyringFault).
    (ok_or (value_named e.attributes (name_of Address)) (fault.Missing Address e.place) >>= (λ a.
    group_at e.place a >>= (λ g. (found >>= (λ d. Ok (option_to_list own ++ d))) >>= (λ s.
    Ok (Lists (record { group = g; senders = s })))))) >>= taken (contents_in under before) e.place)
    (words_read e.place (sender_words e))
    ∙ listing_texts (contents_in under before) e.place (value_named e.attributes (name_of Address)) (option_to_list own)
    (filter_map device_named (sender_words e)) (list_all is_device (sender_words e))
by_kind kind.GroupKey under before e =
    group_texts under (contents_in under before) e.place (value_named e.attributes (name_of Address))
    (value_named e.attributes (name_of Key))
by_kind kind.Device under before e =
    tool_texts under (contents_in under before) e.place (value_named e.attributes (name_of IndividualAddress))
    (value_named e.attributes (codes "ToolKey"))
by_kind kind.Keyring under before e = same (contents_in under before)
by_kind kind.GroupAddresses under before e = same (contents_in under before)
by_kind kind.Devices under before e = same (contents_in under before)
by_kind kind.Other under before e = same (contents_in under before)

with_one : (under : Wrapping) (before : List Element) (e : Element)
    → with_element under (contents_in under before) e
    ≡ unless (element_fault under before e) (Ok (contents_in under (before ++ e ∷ [])))
with_one under before e =
    by_kind e.kind under before e
    ∙ ap (λ (next : Contents). unless (element_fault under before e) (Ok next)) (sym (in_more under before e))

-- ---- all elements

-- the first fault, or the answer
joined : (here later : Option KeyringFault) (next all : Contents) (rest : Contents → Result Contents KeyringFault)
    → rest next ≡ unless later (Ok all)
    → (unless here (Ok next) >>= rest) ≡ unless (option_or here later) (Ok all)
joined (Some why) later next all rest is = refl
joined None later next all rest is = is

from_there : (under : Wrapping) (before elements : List Element)
    → contents_from under (contents_in under before) elements
    ≡ unless (first_of (element_fault under) before elements) (Ok (contents_in under (before ++ elements)))
from_there under before [] = λ i. Ok (contents_in under (sym (append-nil before) i))
from_there under before (e ∷ es) =
    ap (λ (r : Result Contents KeyringFault). r >>= (λ next. contents_from under next es)) (with_one under before e)
    ∙ joined (element_fault under before e) (first_of (element_fault under) (before ++ e ∷ []) es)
    (contents_in under (before ++ e ∷ [])) (contents_in under (before ++ e ∷ es))
    (λ next. contents_from under next es)
    (from_there under (before ++ e ∷ []) es
    ∙ ap (λ (all : List Element). unless (first_of (element_fault under) (before ++ e ∷ []) es)
    (Ok (contents_in under all))) (append_assoc before (e ∷ []) es))

-- the contents, as they are taken one after the other
pub in_turn : (under : Wrapping) (tags : List Tag)
    → contents_from under (record { rows = []; listings = [] }) (elements_in [] tags) ≡ contents_of under tags
unfolding contents_of first_refusal
in_turn under tags = from_there under [] (elements_in [] tags)
