-- A value of the same form in the place of another keeps the forms of all.
use Rattle.std.proofs.Common.{◌≡◌, ℕ, ◌<◌, true, List, map, length, slice_get, slice_set, Some, option_map, IfSome, sym, ap, ◌∙◌, arith, ⊎_elim, subst}
use Rattle.std.specs.Cmp.{booleans_Decides}
use Rattle.std.proofs.lemmas.Bool.{and_parts, eqb-true}
use Rattle.std.proofs.lemmas.List.{map-set, set-get_or, length-map}
use Rattle.std.proofs.lemmas.Option.{slice_get-map, slice_get_cases, get_or_from_slice_get}
use Rattle.group_objects.specs.declared.row.ObjectRow.{ObjectRow}
use Rattle.group_objects.specs.Value.{ObjectValue, same_form}
use Rattle.group_objects.specs.Objects.{ObjectsState, KeepsForms, first_values, form_of}

pub one_form : (a b : ObjectValue) → same_form a b ≡ true → form_of a ≡ form_of b
one_form a b same =
    let parts = and_parts _ _ same in
    ap (λ k. (k, length a.octets)) ((booleans_Decides a.is_bits b.is_bits).0 parts.0)
    ∙ ap (λ n. (b.is_bits, n)) (eqb-true _ _ parts.1)

keep : (values : List ObjectValue) (index : ℕ) (value : ObjectValue)
    → slice_get (map form_of values) index ≡ Some (form_of value)
    → map form_of (slice_set values index value) ≡ map form_of values
keep values index value is =
    let forms = map form_of values in
    let held = get_or_from_slice_get forms index (form_of value) (form_of value) is in
    map-set form_of values index value ∙ ap (λ form. slice_set forms index form) (sym held)
    ∙ set-get_or forms index (form_of value)

-- the value has the form of the one that is held
pub keeps_held : (objects : ObjectsState) (index : ℕ) (value held : ObjectValue)
    → slice_get objects.values index ≡ Some held
    → same_form value held ≡ true → KeepsForms objects → KeepsForms
    (record { rows = objects.rows; values = slice_set objects.values index value })
keeps_held objects index value held at same kept =
    keep objects.values index value (slice_get-map form_of objects.values index ∙ ap (option_map form_of) at
    ∙ ap Some (sym (one_form value held same))) ∙ kept

module _ (rows : List ObjectRow) (index : ℕ) (value : ObjectValue)
    (same : IfSome (slice_get rows index) (λ row. same_form value row.value ≡ true)) where
  form_found : (row : ObjectRow) → slice_get rows index ≡ Some row
      → slice_get (map form_of (first_values rows)) index ≡ Some (form_of value)
  form_found row at =
      slice_get-map form_of (first_values rows) index
      ∙ ap (option_map form_of) (slice_get-map (λ row. row.value) rows index ∙ ap (option_map (λ row. row.value)) at)
      ∙ ap Some (sym (one_form value row.value (subst (λ found. IfSome found (λ row. same_form value row.value ≡ true))
      at same)))

  form_at : index < length rows → slice_get (map form_of (first_values rows)) index ≡ Some (form_of value)
  form_at within =
      ⊎_elim (λ found. form_found found.0 found.2) (λ past. absurd (omega (arith, past.0, within)))
      (slice_get_cases rows index).1

-- the value has the form of the row's
pub keeps_row : (objects : ObjectsState) (index : ℕ) (value : ObjectValue) → index < length objects.rows
    → IfSome (slice_get objects.rows index) (λ row. same_form value row.value ≡ true)
    → KeepsForms objects → KeepsForms (record { rows = objects.rows; values = slice_set objects.values index value })
keeps_row objects index value within same kept =
    keep objects.values index value (ap (λ forms. slice_get forms index) kept
    ∙ form_at objects.rows index value same within) ∙ kept

pub same_length : (objects : ObjectsState) → KeepsForms objects → length objects.values ≡ length objects.rows
same_length objects kept =
    sym (length-map objects.values form_of) ∙ ap length kept ∙ length-map (first_values objects.rows) form_of
    ∙ length-map objects.rows (λ row. row.value)
