-- Where the tags of a document are read, no fault of the document comes any more.
use Rattle.std.proofs.Common.{◌≡◌, ◌≢◌, ℕ, Bool, true, false, cond, codes, List, [], ◌∷◌, Option, Some, None, Result, Ok, Err, IfErr, subst}
use Rattle.std.specs.Option.{ok_or, option_map, unwrap_or}
use Rattle.std.specs.Str.{bytes_eq}
use Rattle.knx_base.specs.declared.address.GroupAddr.{GroupAddr}
use Rattle.knx_base.specs.declared.address.IndAddr.{IndAddr}
use Rattle.tag_text.specs.declared.tag.Tag.{Tag}
use Rattle.tag_text.specs.declared.tag.Tag.TheVariants.{Start, End, Finish}
use Rattle.tag_text.specs.declared.tag.TagFault.{TagFault}
use Rattle.tag_text.specs.Attributes.{value_named}
use Rattle.key_tables.specs.declared.types.Row.{Row}
use Rattle.keyring_reader.specs.declared.attribute.Attribute.TheVariants.{Created, Signature, Address, Key, IndividualAddress}
use Rattle.keyring_reader.specs.declared.fault.KeyringFault.{KeyringFault}
use Rattle.keyring_reader.specs.declared.fault.KeyringFault.TheVariants as fault
use Rattle.keyring_reader.specs.declared.keys.Wrapping.{Wrapping}
use Rattle.keyring_reader.specs.declared.kind.Kind.{Kind}
use Rattle.keyring_reader.specs.declared.kind.Kind.TheVariants as kind
use Rattle.keyring_reader.specs.declared.said.Said.{Said}
use Rattle.keyring_reader.specs.declared.said.Said.TheVariants.{Nothing, GroupKey, ToolKey, Lists}
use Rattle.keyring_reader.specs.Attributes.{name_of}
use Rattle.keyring_reader.specs.Chain.{◌>>=◌}
use Rattle.keyring_reader.specs.Elements.{Element, words_of}
use Rattle.keyring_reader.specs.Contents.{Contents, contents_of}
use Rattle.keyring_reader.specs.Saying.{device_at, group_at, key_at, devices_at, senders_at, tool_says, address_says, said_of, says, taken, with_element, contents_from}
use Rattle.keyring_reader.specs.Signed.{first_long, signature_of}
use Rattle.keyring_reader.specs.Keys.{stored_block, key_named}
use Rattle.keyring_reader.specs.Kinds.{device_named, group_named}
use Rattle.keyring_reader.specs.Keyring.{Root, Stamps, root_of, stamps_in, stamps_of, is_computed, wrapping_of, keyring_under, IsFault}
use Rattle.keyring_reader.specs.Chain.{unless}
use Rattle.keyring_reader.proofs.JudgedLemmas.{in_turn}

abbrev IsOwn : KeyringFault → Type 0
IsOwn (fault.Tag why) = ⊥
IsOwn _ = Unit {0}

-- no fault of the document
abbrev HasOwn : {A : Type 0} → Result A KeyringFault → Type 0
HasOwn (Ok x) = Unit {0}
HasOwn (Err why) = IsOwn why

then : {A B : Type 0} (first : Result A KeyringFault) (next : A → Result B KeyringFault) → HasOwn first
    → ((x : A) → HasOwn (next x)) → HasOwn (first >>= next)
then (Ok x) next own later = later x
then (Err why) next own later = own

or_own : {A : Type 0} (found : Option A) (why : KeyringFault) → IsOwn why → HasOwn (ok_or found why)
or_own None why own = own
or_own (Some x) why own = tt

devices_own : (place : ℕ) (words : List (List ℕ)) → HasOwn (devices_at place words)
devices_own place [] = tt
devices_own place (word ∷ words) =
    then (device_at place word) _ (or_own _ (fault.Address place) tt)
    (λ device. then (devices_at place words) _ (devices_own place words) (λ devices. tt))

said_own : {A : Type 0} (found : Option A) (said : A → Result Said KeyringFault) → ((x : A) → HasOwn (said x))
    → HasOwn (said_of found said)
said_own None said own = tt
said_own (Some x) said own = own x

-- where the texts are there, an address and a key are read
both_own : {A B : Type 0} (place : ℕ) (address : Option A) (key : Option B) (said : A → B → Said)
    → HasOwn (ok_or address (fault.Address place) >>= (λ a. ok_or key (fault.Key place) >>= (λ k. Ok (said a k))))
both_own place None key said = tt
both_own place (Some a) None said = tt
both_own place (Some a) (Some k) said = tt

group_own : (under : Wrapping) (place : ℕ) (address text : Option (List ℕ))
    → HasOwn (ok_or address (fault.Missing Address place) >>= (λ a. ok_or text (fault.Missing Key place) >>= (λ t.
    group_at place a >>= (λ group. key_at under place t >>= (λ key. Ok (GroupKey group key))))))
group_own under place None text = tt
group_own under place (Some a) None = tt
group_own under place (Some a) (Some t) =
    both_own place (group_named a) (key_named under t) (λ group key. GroupKey group key)

tool_own : (under : Wrapping) (place : ℕ) (address : Option (List ℕ)) (text : List ℕ)
    → HasOwn (ok_or address (fault.Missing IndividualAddress place) >>= (λ a. device_at place
    a >>= (λ device. key_at under place text >>= (λ key. Ok (ToolKey device key)))))
tool_own under place None text = tt
tool_own under place (Some a) text =
    both_own place (device_named a) (key_named under text) (λ device key. ToolKey device key)

lists_own : (place : ℕ) (group : Option GroupAddr) (senders : Result (List IndAddr) KeyringFault) → HasOwn senders
    → HasOwn (ok_or group (fault.Address place) >>= (λ g. senders >>= (λ s. Ok
    (Lists (record { group = g; senders = s })))))
lists_own place None senders own = tt
lists_own place (Some g) (Ok s) own = tt
lists_own place (Some g) (Err why) own = own

listing_own : (place : ℕ) (address : Option (List ℕ)) (senders : Result (List IndAddr) KeyringFault) → HasOwn senders
    → HasOwn (ok_or address (fault.Missing Address place) >>= (λ a. group_at place
    a >>= (λ g. senders >>= (λ s. Ok (Lists (record { group = g; senders = s }))))))
listing_own place None senders own = tt
listing_own place (Some a) senders own = lists_own place (group_named a) senders own

senders_own : (own : Option IndAddr) (place : ℕ) (text : List ℕ) → HasOwn (senders_at own place text)
senders_own own place text =
    then (devices_at place (words_of text)) _ (devices_own place (words_of text)) (λ devices. tt)

says_own : (under : Wrapping) (kind : Kind) (attributes : List (List ℕ × List ℕ)) (place : ℕ)
    → HasOwn (says under kind attributes place)
unfolding says
says_own under (kind.Interface own) attributes place =
    said_own (value_named attributes (name_of IndividualAddress)) (address_says place)
    (λ text. then (device_at place text) _ (or_own _ (fault.Address place) tt) (λ device. tt))
says_own under (kind.Listing own) attributes place =
    listing_own place (value_named attributes (name_of Address))
    (senders_at own place (unwrap_or (value_named attributes (codes "Senders")) []))
    (senders_own own place (unwrap_or (value_named attributes (codes "Senders")) []))
says_own under kind.GroupKey attributes place =
    group_own under place (value_named attributes (name_of Address)) (value_named attributes (name_of Key))
says_own under kind.Device attributes place =
    said_own (value_named attributes (codes "ToolKey")) (tool_says under attributes place)
    (λ text. tool_own under place (value_named attributes (name_of IndividualAddress)) text)
says_own under kind.Keyring attributes place = tt
says_own under kind.GroupAddresses attributes place = tt
says_own under kind.Devices attributes place = tt
says_own under kind.Other attributes place = tt

choice_own : {A : Type 0} (test : Bool) (why : KeyringFault) (x : A) → IsOwn why → HasOwn (cond test (Err why) (Ok x))
choice_own true why x own = own
choice_own false why x own = tt

taken_own : (now : Contents) (place : ℕ) (said : Said) → HasOwn (taken now place said)
taken_own now place Nothing = tt
taken_own now place (GroupKey group key) = choice_own _ (fault.Twice place) _ tt
taken_own now place (ToolKey device key) = choice_own _ (fault.Twice place) _ tt
taken_own now place (Lists listing) = tt

contents_own : (under : Wrapping) (now : Contents) (elements : List Element) → HasOwn (contents_from under now elements)
contents_own under now [] = tt
contents_own under now (element ∷ elements) =
    then (with_element under now element) _
    (then (says under element.kind element.attributes element.place) _
    (says_own under element.kind element.attributes element.place) (taken_own now element.place))
    (λ next. contents_own under next elements)

unless_own : {A : Type 0} (found : Option ℕ) (why : ℕ → KeyringFault) (later : Result A KeyringFault)
    → ((n : ℕ) → IsOwn (why n)) → HasOwn later
    → HasOwn (unless (option_map why found) later)
unless_own None why later own own_later = own_later
unless_own (Some n) why later own own_later = own n

named_own : (test : Bool) (root : Root) → HasOwn (cond test (Ok root) (Err fault.NotKeyring))
named_own true root = tt
named_own false root = tt

root_own : (tags : List Tag) → HasOwn (root_of tags)
root_own [] = tt
root_own (Start name attributes place ∷ tags) =
    named_own (bytes_eq name (codes "Keyring")) (record { attributes = attributes; place = place })
root_own (End place ∷ tags) = tt
root_own (Finish ∷ tags) = tt

abbrev stamps : List ℕ → List ℕ → Stamps
stamps c s = record { created = c; signature = s }

stamps_in_own : (place : ℕ) (created signature : Option (List ℕ))
    → HasOwn (ok_or created (fault.Missing Created place) >>= (λ c. ok_or signature
    (fault.Missing Signature place) >>= (λ s.
    Ok (stamps c s))))
stamps_in_own place None signature = tt
stamps_in_own place (Some c) None = tt
stamps_in_own place (Some c) (Some s) = tt

stamps_own : (tags : List Tag) → HasOwn (stamps_of tags)
stamps_own tags =
    then (root_of tags) _ (root_own tags) (λ root.
    unless_own (first_long tags) fault.LongText (stamps_in root) (λ place. tt)
    (stamps_in_own root.place (value_named root.attributes (name_of Created))
    (value_named root.attributes (name_of Signature))))

judged_own : {A : Type 0} (test : Bool) (why : KeyringFault) (x : A) → IsOwn why
    → HasOwn (unless (cond test None (Some why)) (Ok x))
judged_own true why x own = tt
judged_own false why x own = own

under_own : (key : List ℕ) (tags : List Tag) → HasOwn (keyring_under key tags)
unfolding keyring_under
under_own key tags =
    then (stamps_of tags) _ (stamps_own tags) (λ stamps.
    then (wrapping_of key tags stamps) _ (judged_own (is_computed (signature_of tags key)
    (stored_block stamps.signature)) (fault.Signature _ _) _ tt) (λ under.
    then (contents_of under tags) _ (subst (λ (r : Result Contents KeyringFault). HasOwn r) (in_turn under tags)
    (contents_own under _ _)) (λ contents. tt)))

-- no fault that the tags have is the document's
not_the_documents : (key : List ℕ) (tags : List Tag) (why : KeyringFault) (tag : TagFault)
    → IsFault why (keyring_under key tags) → why ≢ fault.Tag tag
not_the_documents key tags why tag is same =
    let found : keyring_under key tags ≡ Err (fault.Tag tag) =
    subst (λ (w : KeyringFault). IsFault w (keyring_under key tags)) same is in
    subst (λ (r : Result (List Row) KeyringFault). HasOwn r) found (under_own key tags)

pub none_wrapped : {A : Type 0} (key : List ℕ) (tags : List Tag) (tag : TagFault) (answer : Result A KeyringFault)
    → IfErr answer (λ why. IsFault why (keyring_under key tags)) → IfErr answer (λ why. why ≢ fault.Tag tag)
none_wrapped key tags tag (Ok x) is = tt
none_wrapped key tags tag (Err why) is = not_the_documents key tags why tag is
