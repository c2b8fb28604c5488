-- An element that is refused.
use Rattle.std.proofs.Common.{◌≡◌, ℕ, ◌+◌, ◌<◌, List, ◌∷◌, length, get_or, drop, Result, sym, ap, subst, ◌∙◌}
use Rattle.std.proofs.lemmas.List.{drop_more}
use Rattle.tag_text.specs.declared.tag.Tag.{Tag}
use Rattle.tag_text.specs.declared.tag.Tag.TheVariants.{Start}
use Rattle.keyring_reader.specs.declared.fault.KeyringFault.{KeyringFault}
use Rattle.keyring_reader.specs.declared.fault.KeyringFault.TheVariants as fault
use Rattle.keyring_reader.specs.declared.keys.Wrapping.{Wrapping}
use Rattle.keyring_reader.specs.declared.kind.Kind.{Kind}
use Rattle.keyring_reader.specs.Walk.{kind_in, innermost}
use Rattle.keyring_reader.specs.Chain.{◌>>=◌}
use Rattle.keyring_reader.specs.Elements.{Element}
use Rattle.keyring_reader.specs.Contents.{Contents}
use Rattle.keyring_reader.specs.Saying.{with_element, contents_from}
use Rattle.keyring_reader.specs.Keyring.{IsFault}
use Rattle.keyring_reader.proofs.KindLemmas.{elements_within}

-- a fault is that of what follows too
pub first_fault : {A B : Type 0} (why : KeyringFault) (found : Result A KeyringFault) (next : A → Result B KeyringFault)
    → IsFault why found → IsFault why (found >>= next)
first_fault fault.NoMemory found next is = tt
first_fault (fault.Tag why) found next is = ap (λ r. r >>= next) is
first_fault fault.NotKeyring found next is = ap (λ r. r >>= next) is
first_fault (fault.Missing attribute place) found next is = ap (λ r. r >>= next) is
first_fault (fault.LongText place) found next is = ap (λ r. r >>= next) is
first_fault (fault.Signature stored computed) found next is = ap (λ r. r >>= next) is
first_fault (fault.Key place) found next is = ap (λ r. r >>= next) is
first_fault (fault.Address place) found next is = ap (λ r. r >>= next) is
first_fault (fault.Twice place) found next is = ap (λ r. r >>= next) is

-- the element that the next tag begins is refused
pub start_refused : (under : Wrapping) (now : Contents) (opened : List Kind) (tags : List Tag) (i : ℕ) (item : Tag)
    (name : List ℕ) (attributes : List (List ℕ × List ℕ))
    (place : ℕ) (kind : Kind) (why : KeyringFault) (all : Result Contents KeyringFault)
    → i < length tags → item ≡ get_or tags i item → item ≡ Start name attributes place
    → kind ≡ kind_in (innermost opened) name attributes
    → contents_from under now (elements_within opened (drop i tags)) ≡ all
    → IsFault why (with_element under now (record { kind = kind; attributes = attributes; place = place }))
    → IsFault why all
start_refused under now opened tags i item name attributes place kind why all within at is kind_is so_far refused =
    let rest : List Tag = drop (i + 1) tags in
    let next : drop i tags ≡ Start name attributes place ∷ rest =
    drop_more tags i item within ∙ ap (λ (tag : Tag). tag ∷ rest) (sym at ∙ is) in
    let own : Kind = kind_in (innermost opened) name attributes in
    let element : Element = record { kind = own; attributes = attributes; place = place } in
    let refused_own : IsFault why (with_element under now element) =
    subst (λ (k : Kind). IsFault why (with_element under now
    (record { kind = k; attributes = attributes; place = place }))) kind_is refused in
    subst (λ (found : Result Contents KeyringFault). IsFault why found)
    (sym (ap (λ (left : List Tag). contents_from under now (elements_within opened left)) next) ∙ so_far)
    (first_fault why (with_element under now element) (λ then. contents_from under
    then (elements_within (own ∷ opened) rest)) refused_own)
