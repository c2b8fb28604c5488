-- What building a configuration and starting a node stand on.
use Prim.Native.Nat.{suc}
use Rattle.std.specs.Prelude.{◌↔◌, not, position}
use Rattle.std.specs.Option.{is_some}
use Rattle.std.specs.List.{list_any, position_or_len}
use Rattle.std.proofs.Common.{◌≡◌, ℕ, ◌+◌, ◌||◌, nat_lt, List, [], ◌∷◌, length, Bool, true, false, cond, Option, Some, None, refl, sym, ap, ◌∙◌, subst, arith}
use Rattle.std.proofs.lemmas.Bool.Decides.{nat_tests}
use Rattle.std.proofs.lemmas.List.{length-map}
use Rattle.group_objects.specs.declared.row.ObjectRow.{ObjectRow}
use Rattle.group_objects.specs.Objects.{ObjectsState, at_start}
use Rattle.seq_store.specs.Laws.{IsUnformattedAt}
use Rattle.seq_store.specs.Refusal.{has_read}
use Rattle.seq_store.specs.declared.fault.StoreFault.{StoreFault}
use Rattle.seq_store.specs.declared.fault.StoreFault.TheVariants.{Unformatted}

-- ---- no element passes where none has a place

found_where : {A : Type 0} (this rest : Bool) (place : ℕ) (xs : List A) → nat_lt place (length xs) ≡ rest
    → nat_lt (cond (not this) (1 + place) 0) (suc (length xs)) ≡ (this || rest)
found_where true rest place xs is = grind (arith, nat_tests)
found_where false rest place xs is = grind (arith, nat_tests, is)

found : {A : Type 0} (p : A → Bool) (xs : List A) → nat_lt (position_or_len p xs) (length xs) ≡ list_any p xs
found p [] = refl
found p (x ∷ xs) = found_where (p x) (list_any p xs) (position_or_len p xs) xs (found p xs)

some_where : {A : Type 0} (b : Bool) (x : A) → is_some (cond b (Some x) None) ≡ b
some_where true x = refl
some_where false x = refl

pub there_where : {A : Type 0} (p : A → Bool) (xs : List A) → is_some (position p xs) ≡ list_any p xs
there_where p xs = some_where (nat_lt (position_or_len p xs) (length xs)) (position_or_len p xs) ∙ found p xs

pub none_passes : {A : Type 0} (p : A → Bool) (xs : List A) → position p xs ≡ None → list_any p xs ≡ false
none_passes p xs none = sym (there_where p xs) ∙ ap is_some none

-- ---- the refusal of a start, in the words of a configuration

pub unformatted_as : {lanes lanes' : ℕ} {octets : List ℕ} {a b : Option StoreFault} → lanes ≡ lanes' → a ≡ b
    → ((place : ℕ) → (a ≡ Some (Unformatted place)) ↔ (IsUnformattedAt lanes octets place × (has_read a ≡ true)))
    → (place : ℕ) → (b ≡ Some (Unformatted place)) ↔ (IsUnformattedAt lanes' octets place × (has_read b ≡ true))
unformatted_as {lanes = lanes} {octets = octets} {b = b} same_lanes same before =
    subst (λ n. (place : ℕ) → (b ≡ Some (Unformatted place)) ↔ (IsUnformattedAt n octets place × (has_read b ≡ true)))
    same_lanes
    (subst (λ r. (place : ℕ) → (r ≡ Some (Unformatted place))
    ↔ (IsUnformattedAt lanes octets place × (has_read r ≡ true))) same before)

-- ---- objects at their start

pub values_at_start : (held : ObjectsState) (rows : List ObjectRow) → held ≡ at_start rows
    → length held.values ≡ length held.rows
values_at_start held rows is =
    ap (λ (o : ObjectsState). length o.values) is ∙ length-map rows (λ (row : ObjectRow). row.value)
    ∙ sym (ap (λ (o : ObjectsState). length o.rows) is)
