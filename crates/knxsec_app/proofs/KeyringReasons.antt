-- No keyring is refused for want of memory.
use Rattle.std.proofs.Common.{◌≡◌, ◌≢◌, arith, ℕ, List, [], Bool, true, false, Option, Some, None, IfSome, Result, Ok, Err, IfErr, subst}
use Rattle.std.specs.Option.{option_map}
use Rattle.tag_text.specs.declared.tag.Tag.{Tag}
use Rattle.tag_text.specs.declared.tag.TagFault.{TagFault}
use Rattle.tag_text.specs.declared.tag.TagFault.TheVariants as tag
use Rattle.tag_text.specs.Document.{document_fault, events_of}
use Rattle.key_tables.specs.declared.types.Row.{Row}
use Rattle.keyring_reader.specs.declared.fault.KeyringFault.{KeyringFault}
use Rattle.keyring_reader.specs.declared.fault.KeyringFault.TheVariants as fault
use Rattle.keyring_reader.specs.Attributes.{required}
use Rattle.keyring_reader.specs.Chain.{◌>>=◌, unless}
use Rattle.keyring_reader.specs.Contents.{contents_in, contents_of}
use Rattle.keyring_reader.specs.Elements.{Element, elements_of}
use Rattle.keyring_reader.specs.Keys.{stored_block, password_key}
use Rattle.keyring_reader.specs.Keyring.{Root, Stamps, root_named, root_of, stamps_in, stamps_of, signature_fault, wrapping_of, tags_of, keyring_under, keyring_of}
use Rattle.keyring_reader.specs.Refusals.{element_fault, first_refusal}
use Rattle.keyring_reader.specs.Signed.{first_long, signature_of}
use Rattle.knxsec_app.proofs.Firsts.{first_is, mapped}
use Rattle.knxsec_app.proofs.DocumentReasons.{IsOfDocument, document_so}

-- a keyring is refused for what it says
abbrev IsOfText : KeyringFault → Type 0
IsOfText fault.NoMemory = ⊥
IsOfText (fault.Tag tag.NoMemory) = ⊥
IsOfText _ = Unit {0}

abbrev is_memory : Option KeyringFault → Bool
is_memory (Some fault.NoMemory) = true
is_memory (Some (fault.Tag tag.NoMemory)) = true
is_memory _ = false

abbrev IsTold : {A : Type 0} → Result A KeyringFault → Type 0
IsTold found = IfErr found IsOfText

-- ---- answers that follow on one another

follows : {A B : Type 0} (found : Result A KeyringFault) (next : A → Result B KeyringFault) → IsTold found
    → ((x : A) → IsTold (next x)) → IsTold (found >>= next)
follows (Ok x) next first later = later x
follows (Err why) next first later = first

unless_so : {A : Type 0} (found : Option KeyringFault) (answer : Result A KeyringFault) → IfSome found IsOfText
    → IsTold answer → IsTold (unless found answer)
unless_so None answer first later = later
unless_so (Some why) answer first later = first

-- ---- the root element

named_so : (name : List ℕ) (root : Root) → IsTold (root_named name root)
named_so name root = grind arith

root_so : (tags : List Tag) → IsTold (root_of tags)
root_so tags = grind arith

required_so : (attributes : List (List ℕ × List ℕ)) (attribute : _) (place : ℕ)
    → IsTold (required attributes attribute place)
required_so attributes attribute place = grind arith

stamps_in_so : (root : Root) → IsTold (stamps_in root)
stamps_in_so root = search (follows, required_so)

long_so : (place : Option ℕ) → IfSome (option_map fault.LongText place) IsOfText
long_so None = tt
long_so (Some place) = tt

stamps_so : (tags : List Tag) → IsTold (stamps_of tags)
stamps_so tags =
    follows (root_of tags) _ (root_so tags)
    (λ root. unless_so _ (stamps_in root) (long_so (first_long tags)) (stamps_in_so root))

signed_so : (stored : Option (List ℕ)) (computed : List ℕ) → IfSome (signature_fault stored computed) IsOfText
signed_so stored computed = grind arith

wrapping_so : (key : List ℕ) (tags : List Tag) (stamps : Stamps) → IsTold (wrapping_of key tags stamps)
wrapping_so key tags stamps =
    unless_so (signature_fault (stored_block stamps.signature) (signature_of tags key)) _
    (signed_so (stored_block stamps.signature) (signature_of tags key)) tt

-- ---- elements

element_is : (under : _) (before : List Element) (element : Element)
    → is_memory (element_fault under before element) ≡ false
element_is under before element = grind arith

of_text : (found : Option KeyringFault) → is_memory found ≡ false → IfSome found IsOfText
of_text found is = grind arith

contents_so : (under : _) (tags : List Tag) → IsTold (contents_of under tags)
unfolding contents_of first_refusal
contents_so under tags =
    unless_so (first_refusal under (elements_of tags)) (Ok (contents_in under (elements_of tags)))
    (first_is IsOfText (element_fault under) (λ before element.
    of_text (element_fault under before element) (element_is under before element)) [] (elements_of tags))
    tt

-- ---- the document

of_document : (why : TagFault) → IsOfDocument why → IsOfText (fault.Tag why)
of_document (tag.Bad place) is = tt
of_document (tag.Utf8 place) is = tt
of_document (tag.Deep place) is = tt
of_document tag.NoMemory is = is

tags_so : (octets : List ℕ) → IsTold (tags_of octets)
unfolding tags_of
tags_so octets =
    unless_so (option_map fault.Tag (document_fault octets)) (Ok (events_of octets))
    (mapped IsOfDocument IsOfText fault.Tag (document_fault octets) of_document (document_so octets)) tt

under_so : (key : List ℕ) (tags : List Tag) → IsTold (keyring_under key tags)
unfolding keyring_under
under_so key tags = search (follows, stamps_so, wrapping_so, contents_so)

keyring_so : (octets password : List ℕ) → IsTold (keyring_of octets password)
unfolding keyring_of
keyring_so octets password =
    follows (tags_of octets) (keyring_under (password_key password)) (tags_so octets)
    (under_so (password_key password))

pub no_memory : (octets password : List ℕ) → keyring_of octets password ≢ Err fault.NoMemory
no_memory octets password same =
    subst (λ (found : Result (List Row) KeyringFault). IsTold found) same (keyring_so octets password)

pub no_tag_memory : (octets password : List ℕ) → keyring_of octets password ≢ Err (fault.Tag tag.NoMemory)
no_tag_memory octets password same =
    subst (λ (found : Result (List Row) KeyringFault). IsTold found) same (keyring_so octets password)
