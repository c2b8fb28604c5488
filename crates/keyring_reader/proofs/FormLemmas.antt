-- A search through the attributes of an element for one that is too long.
use Rattle.std.proofs.Common.{◌≡◌, ℕ, ◌+◌, ◌&&◌, Bool, true, false, List, ◌∷◌, drop, slice_get, Some, refl, ap, ◌∙◌}
use Rattle.std.specs.List.{list_any, filter}
use Rattle.keyring_reader.specs.Signed.{is_signed, is_long_attribute}
use Rattle.keyring_reader.proofs.ListLemmas.{drop_at}

-- some signed attribute is too long
abbrev any_long : List (List ℕ × List ℕ) → Bool
any_long attributes = list_any is_long_attribute (filter is_signed attributes)

first_long : (signed long : Bool) (attribute : List ℕ × List ℕ) (rest : List (List ℕ × List ℕ))
    → is_signed attribute ≡ signed → is_long_attribute attribute ≡ long
    → (signed && long) ≡ true → any_long (attribute ∷ rest) ≡ true
first_long true true attribute rest is_signed_is is_long_is both = rw (is_signed_is, is_long_is) refl
first_long true false attribute rest is_signed_is is_long_is both = cc
first_long false long attribute rest is_signed_is is_long_is both = cc

not_first : (signed long : Bool) (attribute : List ℕ × List ℕ) (rest : List (List ℕ × List ℕ))
    → is_signed attribute ≡ signed → is_long_attribute attribute ≡ long
    → (signed && long) ≡ false → any_long (attribute ∷ rest) ≡ any_long rest
not_first true true attribute rest is_signed_is is_long_is both = cc
not_first true false attribute rest is_signed_is is_long_is both = rw (is_signed_is, is_long_is) refl
not_first false long attribute rest is_signed_is is_long_is both = rw is_signed_is refl

pub here_long : (attributes : List (List ℕ × List ℕ)) (i : ℕ) (attribute : List ℕ × List ℕ)
    → any_long attributes ≡ any_long (drop i attributes)
    → slice_get attributes i ≡ Some attribute → (is_signed attribute && is_long_attribute attribute) ≡ true
    → any_long attributes ≡ true
here_long attributes i attribute so_far at long =
    so_far ∙ ap any_long (drop_at attributes i attribute at)
    ∙ first_long (is_signed attribute) (is_long_attribute attribute) attribute (drop (i + 1) attributes) refl refl long

pub not_here : (attributes : List (List ℕ × List ℕ)) (i : ℕ) (attribute : List ℕ × List ℕ)
    → any_long attributes ≡ any_long (drop i attributes)
    → slice_get attributes i ≡ Some attribute → (is_signed attribute && is_long_attribute attribute) ≡ false
    → any_long attributes ≡ any_long (drop (i + 1) attributes)
not_here attributes i attribute so_far at short =
    so_far ∙ ap any_long (drop_at attributes i attribute at)
    ∙ not_first (is_signed attribute) (is_long_attribute attribute) attribute (drop (i + 1) attributes) refl refl short
