-- The search for an attribute by its name.
use Rattle.std.proofs.Common.{◌≡◌, ◌≢◌, ℕ, Bool, true, false, List, [], ◌∷◌, Option, Some, None, refl, sym, zero, suc, ◌+◌, ◌-◌, ◌<◌, ◌≤◌, ◌||◌, cond, length, drop, get_or, arith, ap, ◌∙◌, nat_cmp}
use Rattle.std.specs.List.{All, list_any}
use Rattle.std.specs.Option.{option_map, IfNone}
use Rattle.std.specs.Str.{bytes_eq}
use denote.Ref.{Bor}
use Rattle.std.proofs.lemmas.List.Elements.{All-nil, All-cons}
use Rattle.std.proofs.lemmas.Slice.Eq.{bytes_eq-Decides}
use Rattle.std.specs.Cmp.Lexicographic.{slice_cmp}
use Rattle.std.specs.Ordering.{is_eq}
use Rattle.std.proofs.lemmas.List.{drop_more}
use Rattle.std.proofs.lemmas.Map.Text.{is_eq-slice_cmp}
use Rattle.tag_text.specs.Attributes.{value_named, are_distinct}

none_step : (attribute : List ℕ × List ℕ) (attributes : List (List ℕ × List ℕ)) (name : List ℕ) (b : Bool)
    → bytes_eq attribute.0 name ≡ b
    → (value_named attributes name ≡ None → All (λ other. other.0 ≢ name) attributes)
    → value_named (attribute ∷ attributes) name ≡ None → All (λ other. other.0 ≢ name) (attribute ∷ attributes)
none_step attribute attributes name true is rest none = cc (is, none)
none_step attribute attributes name false is rest none =
    All-cons (λ (other : List ℕ × List ℕ). other.0 ≢ name) attribute attributes
    (λ same. cc (is, (bytes_eq-Decides attribute.0 name).1 same)) (rest (rw is at none))

pub none_named : (attributes : List (List ℕ × List ℕ)) (name : List ℕ) → value_named attributes name ≡ None
    → All (λ attribute. attribute.0 ≢ name) attributes
none_named [] name none = All-nil (λ (other : List ℕ × List ℕ). other.0 ≢ name)
none_named (attribute ∷ attributes) name none =
    none_step attribute attributes name (bytes_eq attribute.0 name) refl (none_named attributes name) none

pub none_found : (attributes : List (List ℕ × List ℕ)) (name : List ℕ) (found : Option (Bor (List ℕ)))
    → option_map (λ value. value.now) found ≡ value_named attributes name
    → IfNone found (All (λ attribute. attribute.0 ≢ name) attributes)
none_found attributes name None is = none_named attributes name (sym is)
none_found attributes name (Some value) is = tt

-- the last of the attributes before a place
pub last_before : (pairs : List (List ℕ × List ℕ)) (left : ℕ) (pair : List ℕ × List ℕ) → 0 < left → left ≤ length pairs
    → pair ≡ get_or pairs (left - 1) pair → drop (left - 1) pairs ≡ pair ∷ drop left pairs
last_before pairs left pair some within is =
    let place : left - 1 + 1 ≡ left = omega (arith, some) in
    drop_more pairs (left - 1) pair (omega (arith, some, within))
    ∙ ap (λ (first : List ℕ × List ℕ). first ∷ drop (left - 1 + 1) pairs) (sym is)
    ∙ ap (λ (n : ℕ). pair ∷ drop n pairs) place

either_false : (b other : Bool) → other ≡ false → cond b false other ≡ false
either_false true other is = refl
either_false false other is = is

-- where later attributes repeat a name, all do
later_repeat : (n : ℕ) (pairs : List (List ℕ × List ℕ)) → are_distinct (drop n pairs) ≡ false
    → are_distinct pairs ≡ false
later_repeat zero pairs repeat = repeat
later_repeat (suc n) [] repeat = repeat
later_repeat (suc n) (pair ∷ pairs) repeat =
    either_false (list_any (λ other. bytes_eq other.0 pair.0) pairs) (are_distinct pairs) (later_repeat n pairs repeat)

pub name_repeated : (pairs : List (List ℕ × List ℕ)) (n : ℕ) (pair : List ℕ × List ℕ) (rest : List (List ℕ × List ℕ))
    → drop n pairs ≡ pair ∷ rest
    → list_any (λ other. bytes_eq other.0 pair.0) rest ≡ true → are_distinct pairs ≡ false
name_repeated pairs n pair rest is any =
    later_repeat n pairs (ap are_distinct is ∙ ap (λ (b : Bool). cond b false (are_distinct rest)) any)

pub name_new : (pairs : List (List ℕ × List ℕ)) (n : ℕ) (pair : List ℕ × List ℕ) (rest : List (List ℕ × List ℕ))
    → drop n pairs ≡ pair ∷ rest
    → list_any (λ other. bytes_eq other.0 pair.0) rest ≡ false → are_distinct rest ≡ true
    → are_distinct (drop n pairs) ≡ true
name_new pairs n pair rest is any distinct =
    ap are_distinct is ∙ ap (λ (b : Bool). cond b false (are_distinct rest)) any ∙ distinct

either_or : (b other : Bool) → cond b true other ≡ (b || other)
either_or true other = refl
either_or false other = refl

-- the set has one more name
pub names_more : (pairs rest : List (List ℕ × List ℕ)) (n : ℕ) (pair : List ℕ × List ℕ) (name other : List ℕ)
    (old new : Bool) → drop n pairs ≡ pair ∷ rest
    → name ≡ pair.0 → new ≡ cond (is_eq (slice_cmp nat_cmp name other)) true old
    → old ≡ list_any (λ attribute. bytes_eq attribute.0 other) rest
    → new ≡ list_any (λ attribute. bytes_eq attribute.0 other) (drop n pairs)
names_more pairs rest n pair name other old new is name_is put had =
    put ∙ either_or (is_eq (slice_cmp nat_cmp name other)) old
    ∙ ap (λ (b : Bool). b || old) (is_eq-slice_cmp name other ∙ ap (λ (octets : List ℕ). bytes_eq octets other) name_is)
    ∙ ap (λ (b : Bool). bytes_eq pair.0 other || b) had
    ∙ ap (λ (attributes : List (List ℕ × List ℕ)). list_any (λ attribute. bytes_eq attribute.0 other) attributes)
    (sym is)
