-- The kind of an element by its name and the kind of the element around it is the one by its path.
use Rattle.std.proofs.Common.{◌≡◌, ℕ, Bool, true, false, cond, ◌&&◌, List, [], ◌∷◌, codes, Option, Some, ap, ◌∙◌, sym, refl}
use Rattle.std.specs.Str.{bytes_eq}
use Rattle.std.proofs.lemmas.Slice.Eq.{bytes_eq-Decides}
use Rattle.knx_base.specs.declared.address.IndAddr.{IndAddr}
use Rattle.tag_text.specs.declared.tag.Tag.{Tag}
use Rattle.tag_text.specs.declared.tag.Tag.TheVariants.{Start, End, Finish}
use Rattle.keyring_reader.specs.declared.kind.Kind.{Kind}
use Rattle.keyring_reader.specs.declared.kind.Kind.TheVariants as kind
use Rattle.keyring_reader.specs.Kinds.{Named, own_address, kind_at}
use Rattle.keyring_reader.specs.Elements.{Element, outside, elements_in}
use Rattle.keyring_reader.specs.Walk.{kind_in, innermost}

-- the elements that tags begin, in order, inside of elements of these kinds
abbrev pub elements_within : List Kind → List Tag → List Element
elements_within kinds [] = []
elements_within kinds (Start name attributes place ∷ tags) =
    let kind = kind_in (innermost kinds) name attributes in
    record { kind = kind; attributes = attributes; place = place } ∷ elements_within (kind ∷ kinds) tags
elements_within kinds (End place ∷ tags) = elements_within (outside kinds) tags
elements_within kinds (Finish ∷ tags) = elements_within kinds tags

abbrev pub kinds_at : List Named → List Kind
kinds_at [] = []
kinds_at (element ∷ outer) = kind_at (element ∷ outer) ∷ kinds_at outer

-- in the root element
under_root : (b : Bool) (name : List ℕ) (attributes : List (List ℕ × List ℕ))
    → kind_in (Some (cond b kind.Keyring kind.Other)) name attributes
    ≡ cond (b && bytes_eq name (codes "Interface")) (kind.Interface (own_address attributes))
    (cond (b && bytes_eq name (codes "GroupAddresses")) kind.GroupAddresses
    (cond (b && bytes_eq name (codes "Devices")) kind.Devices kind.Other))
under_root true name attributes = refl
under_root false name attributes = refl

last_choice : (group device second third : Bool) (own : Option IndAddr) → third ≡ false
    → cond group (kind.Listing own) kind.Other ≡ cond group (kind.Listing own)
    (cond (second && group) kind.GroupKey (cond (third && device) kind.Device kind.Other))
last_choice true device second third own none = refl
last_choice false device true third own none = ap (λ (b : Bool). cond (b && device) kind.Device kind.Other) (sym none)
last_choice false device false third own none = ap (λ (b : Bool). cond (b && device) kind.Device kind.Other) (sym none)

key_choice : (group device third : Bool) → third ≡ false
    → cond group kind.GroupKey kind.Other ≡ cond group kind.GroupKey (cond (third && device) kind.Device kind.Other)
key_choice true device third none = refl
key_choice false device third none = ap (λ (b : Bool). cond (b && device) kind.Device kind.Other) (sym none)

-- in an element of the root
under_section : (first second third : Bool) (own : Option IndAddr) (name : List ℕ) (attributes : List (List ℕ × List ℕ))
    → (first ≡ true → third ≡ false)
    → (second ≡ true → third ≡ false)
    → kind_in (Some (cond first (kind.Interface own) (cond second kind.GroupAddresses
    (cond third kind.Devices kind.Other)))) name attributes
    ≡ cond (first && bytes_eq name (codes "Group")) (kind.Listing own)
    (cond (second && bytes_eq name (codes "Group")) kind.GroupKey
    (cond (third && bytes_eq name (codes "Device")) kind.Device kind.Other))
under_section true second third own name attributes one other =
    last_choice (bytes_eq name (codes "Group")) (bytes_eq name (codes "Device")) second third own (one refl)
under_section false true third own name attributes one other =
    key_choice (bytes_eq name (codes "Group")) (bytes_eq name (codes "Device")) third (other refl)
under_section false false true own name attributes one other = refl
under_section false false false own name attributes one other = refl

-- in an element deeper than that
under_last : (first second third : Bool) (own : Option IndAddr) (name : List ℕ) (attributes : List (List ℕ × List ℕ))
    → kind_in (Some (cond first (kind.Listing own) (cond second kind.GroupKey (cond third kind.Device kind.Other))))
    name attributes ≡ kind.Other
under_last true second third own name attributes = refl
under_last false true third own name attributes = refl
under_last false false true own name attributes = refl
under_last false false false own name attributes = refl

no_devices : (b : Bool) (name other : List ℕ) → bytes_eq other (codes "Devices") ≡ false
    → (b && bytes_eq name other) ≡ true → (b && bytes_eq name (codes "Devices")) ≡ false
no_devices true name other differs is =
    ap (λ (text : List ℕ). bytes_eq text (codes "Devices")) ((bytes_eq-Decides name other).0 is) ∙ differs
no_devices false name other differs is = refl

kind_is : (outer : List Named) (name : List ℕ) (attributes : List (List ℕ × List ℕ))
    → kind_in (innermost (kinds_at outer)) name attributes ≡ kind_at
    (record { name = name; attributes = attributes } ∷ outer)
kind_is [] name attributes = refl
kind_is (root ∷ []) name attributes = under_root (bytes_eq root.name (codes "Keyring")) name attributes
kind_is (section ∷ root ∷ []) name attributes =
    let b : Bool = bytes_eq root.name (codes "Keyring") in
    under_section (b && bytes_eq section.name (codes "Interface")) (b && bytes_eq section.name (codes "GroupAddresses"))
    (b && bytes_eq section.name (codes "Devices"))
    (own_address section.attributes) name attributes
    (no_devices b section.name (codes "Interface") refl) (no_devices b section.name (codes "GroupAddresses") refl)
kind_is (last ∷ section ∷ root ∷ []) name attributes =
    let b : Bool = bytes_eq root.name (codes "Keyring") in
    under_last ((b && bytes_eq section.name (codes "Interface")) && bytes_eq last.name (codes "Group"))
    ((b && bytes_eq section.name (codes "GroupAddresses")) && bytes_eq last.name (codes "Group"))
    ((b && bytes_eq section.name (codes "Devices")) && bytes_eq last.name (codes "Device"))
    (own_address section.attributes) name attributes
kind_is (deep ∷ last ∷ section ∷ root ∷ outer) name attributes = refl

outside_is : (outer : List Named) → outside (kinds_at outer) ≡ kinds_at (outside outer)
outside_is [] = refl
outside_is (element ∷ outer) = refl

-- all elements are of the kinds that their paths tell
pub all_within : (outer : List Named) (tags : List Tag) → elements_within (kinds_at outer) tags ≡ elements_in outer tags
all_within outer [] = refl
all_within outer (Start name attributes place ∷ tags) =
    let opened : List Named = record { name = name; attributes = attributes } ∷ outer in
    let element : Kind → Element = λ kind. record { kind = kind; attributes = attributes; place = place } in
    ap (λ (kind : Kind). element kind ∷ elements_within (kind ∷ kinds_at outer) tags) (kind_is outer name attributes)
    ∙ ap (λ (elements : List Element). element (kind_at opened) ∷ elements) (all_within opened tags)
all_within outer (End place ∷ tags) =
    ap (λ (kinds : List Kind). elements_within kinds tags) (outside_is outer) ∙ all_within (outside outer) tags
all_within outer (Finish ∷ tags) = all_within outer tags
