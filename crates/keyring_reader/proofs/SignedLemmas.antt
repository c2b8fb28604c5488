-- Attributes that are put into their places one after the other.
use Rattle.std.proofs.Common.{◌≡◌, ℕ, ◌+◌, Bool, true, false, cond, List, [], ◌∷◌, ◌++◌, map, fold, drop, slice_get, Some, Ordering, refl, sym, ap, ◌∙◌, nat_cmp, append_assoc, append-nil, flat_map}
use Rattle.std.proofs.lemmas.Grind.{flat_map-append}
use Rattle.std.specs.Ordering.{match_ordering}
use Rattle.std.specs.declared.cmp.Ordering.TheVariants.{Less, Equal, Greater}
use Rattle.std.specs.List.{filter}
use Rattle.std.specs.Cmp.Lexicographic.{slice_cmp}
use Rattle.std.specs.BTreeMap.{insert_entry}
use denote.Ref.{Bor}
use Rattle.keyring_reader.specs.Signed.{is_signed, placed, signed_attribute}
use Rattle.keyring_reader.specs.Texts.{deref_texts}
use Rattle.keyring_reader.proofs.ListLemmas.{drop_at}

abbrev by_text : Bor (List ℕ) → Bor (List ℕ) → Ordering
by_text a b = slice_cmp nat_cmp a.now b.now

abbrev Entry : Type 0
Entry = Bor (List ℕ) × Bor (List ℕ)

chosen : (order : Ordering) (a b c : List Entry)
    → map deref_texts (match_ordering order a b c) ≡ match_ordering order (map deref_texts a) (map deref_texts b)
    (map deref_texts c)
chosen Less a b c = refl
chosen Equal a b c = refl
chosen Greater a b c = refl

-- the map's entries show the attributes in their places
pub shown : (entries : List Entry) (name value : Bor (List ℕ))
    → map deref_texts (insert_entry by_text entries name value) ≡ placed (map deref_texts entries) (name.now, value.now)
shown [] name value = refl
shown (entry ∷ entries) name value =
    chosen (by_text name entry.0) ((name, value) ∷ entry ∷ entries) ((entry.0, value) ∷ entries)
    (entry ∷ insert_entry by_text entries name value)
    ∙ ap (λ (rest : List (List ℕ × List ℕ)).
    match_ordering (by_text name entry.0) ((name.now, value.now) ∷ deref_texts entry ∷ map deref_texts entries)
    ((entry.0.now, value.now) ∷ map deref_texts entries) (deref_texts entry ∷ rest))
    (shown entries name value)

-- one more signed attribute
pub one_placed : (attributes all ordered next : List (List ℕ × List ℕ)) (i : ℕ) (attribute : List ℕ × List ℕ)
    → slice_get attributes i ≡ Some attribute
    → is_signed attribute ≡ true → next ≡ placed ordered attribute
    → fold placed ordered (filter is_signed (drop i attributes)) ≡ all
    → fold placed next (filter is_signed (drop (i + 1) attributes)) ≡ all
one_placed attributes all ordered next i attribute at signed is so_far =
    let later : List (List ℕ × List ℕ) = filter is_signed (drop (i + 1) attributes) in
    ap (λ (now : List (List ℕ × List ℕ)). fold placed now later) is
    ∙ sym (ap (λ (rest : List (List ℕ × List ℕ)). fold placed ordered (filter is_signed rest))
    (drop_at attributes i attribute at)
    ∙ ap (λ (b : Bool). fold placed ordered (cond b (attribute ∷ later) later)) signed)
    ∙ so_far

-- one more that is not signed
pub none_placed : (attributes all ordered : List (List ℕ × List ℕ)) (i : ℕ) (attribute : List ℕ × List ℕ)
    → slice_get attributes i ≡ Some attribute
    → is_signed attribute ≡ false → fold placed ordered (filter is_signed (drop i attributes)) ≡ all
    → fold placed ordered (filter is_signed (drop (i + 1) attributes)) ≡ all
none_placed attributes all ordered i attribute at signed so_far =
    let later : List (List ℕ × List ℕ) = filter is_signed (drop (i + 1) attributes) in
    sym (ap (λ (rest : List (List ℕ × List ℕ)). fold placed ordered (filter is_signed rest))
    (drop_at attributes i attribute at)
    ∙ ap (λ (b : Bool). fold placed ordered (cond b (attribute ∷ later) later)) signed)
    ∙ so_far

-- one more attribute at the end of what was signed
pub more_signed : (m : List ℕ) (done : List (List ℕ × List ℕ)) (attribute : List ℕ × List ℕ)
    → (m ++ flat_map signed_attribute done) ++ signed_attribute attribute ≡ m
    ++ flat_map signed_attribute (done ++ attribute ∷ [])
more_signed m done attribute =
    append_assoc m (flat_map signed_attribute done) (signed_attribute attribute)
    ∙ ap (λ (text : List ℕ). m ++ text)
    (sym (flat_map-append signed_attribute done (attribute ∷ [])
    ∙ ap (λ (text : List ℕ). flat_map signed_attribute done ++ text) (append-nil (signed_attribute attribute))))
