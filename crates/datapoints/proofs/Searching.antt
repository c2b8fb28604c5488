-- The search through all lists of so many octets.
use Rattle.std.proofs.Common.{◌≡◌, ℕ, zero, suc, ◌+◌, ◌<◌, ◌≤◌, Bool, true, false, cond, List, [], ◌∷◌, length, get_or, Option, Some, None, refl, sym, ap, ◌∙◌, arith, inl, inr}
use Rattle.std.specs.Prelude.{find}
use Rattle.std.specs.Option.{option_map, option_or}
use Rattle.std.specs.List.{flat_map, range_with_len}
use Rattle.std.proofs.lemmas.Bool.{cases_eq}
use Rattle.std.proofs.lemmas.List.Folds.{find-append}
use Rattle.std.proofs.lemmas.List.Concat.{flat_map-cons}
use Rattle.datapoints.specs.Texts.{with_front, all_octets}
use Rattle.datapoints.proofs.SaidTexts.{AreOctets}

-- ---- one octet in front

find_front : (p : List ℕ → Bool) (octet : ℕ) (lists : List (List ℕ))
    → find p (with_front lists octet) ≡ option_map (λ list. octet ∷ list) (find (λ list. p (octet ∷ list)) lists)
find_front p octet [] = refl
find_front p octet (list ∷ lists) = by (p (octet ∷ list)) (find_front p octet lists) where
  by : (passes : Bool)
      → find p (with_front lists octet)
      ≡ option_map (λ list. octet ∷ list) (find (λ list. p (octet ∷ list)) lists)
      → cond passes (Some (octet ∷ list)) (find p (with_front lists octet))
      ≡ option_map (λ list. octet ∷ list) (cond passes (Some list) (find (λ list. p (octet ∷ list)) lists))
  by true hypothesis = refl
  by false hypothesis = hypothesis

-- so many octets in front, from this one on
abbrev among : (List ℕ → Bool) → List (List ℕ) → ℕ → ℕ → Option (List ℕ)
among p lists low count = find p (flat_map (with_front lists) (range_with_len low count))

among_more : (p : List ℕ → Bool) (lists : List (List ℕ)) (low count : ℕ)
    → among p lists low (suc count)
    ≡ option_or (option_map (λ list. low ∷ list) (find (λ list. p (low ∷ list)) lists)) (among p lists (low + 1) count)
among_more p lists low count =
    ap (find p) (flat_map-cons (with_front lists) low (range_with_len (low + 1) count))
    ∙ find-append p (with_front lists low) (flat_map (with_front lists) (range_with_len (low + 1) count))
    ∙ ap (λ first. option_or first (among p lists (low + 1) count)) (find_front p low lists)

-- the first list that passes, and its front is the least of all that pass
pub record IsFirst (p : List ℕ → Bool) (lists : List (List ℕ)) (low count : ℕ) (found : List ℕ) : Type 0 where
  pub front : ℕ
  pub rest : List ℕ
  pub found_is : found ≡ front ∷ rest
  pub from : low ≤ front
  pub below : front < low + count
  pub rest_is : find (λ list. p (front ∷ list)) lists ≡ Some rest
  pub least : (other : ℕ) (list : List ℕ) → low ≤ other → find (λ rest. p (other ∷ rest)) lists ≡ Some list
      → front ≤ other

among_first : (p : List ℕ → Bool) (lists : List (List ℕ)) (low count : ℕ) (found : List ℕ)
    → among p lists low count ≡ Some found → IsFirst p lists low count found
among_first p lists low zero found is = absurd cc
among_first p lists low (suc count) found is =
    by (find (λ list. p (low ∷ list)) lists) refl (sym (among_more p lists low count) ∙ is)
    (among_first p lists (low + 1) count found)
  where
    later : IsFirst p lists (low + 1) count found → find (λ list. p (low ∷ list)) lists ≡ None
        → IsFirst p lists low (suc count) found
    later first none = record {
      front = first.front;
      rest = first.rest;
      found_is = first.found_is;
      from = omega (arith, first.from);
      below = omega (arith, first.below);
      rest_is = first.rest_is;
      least = λ other list above is. elim (cases_eq other low) [
        | inl same ↦ absurd (let both = sym none ∙ ap (λ o. find (λ list. p (o ∷ list)) lists) (sym same) ∙ is in cc)
        | inr apart ↦ first.least other list (omega arith) is
      ];
    }

    by : (first : Option (List ℕ)) → find (λ list. p (low ∷ list)) lists ≡ first
        → option_or (option_map (λ list. low ∷ list) first) (among p lists (low + 1) count) ≡ Some found
        → (among p lists (low + 1) count ≡ Some found → IsFirst p lists (low + 1) count found)
        → IsFirst p lists low (suc count) found
    by None none said hypothesis = later (hypothesis said) none
    by (Some rest) some said hypothesis = record {
      front = low;
      rest = rest;
      found_is = cc;
      from = omega arith;
      below = omega arith;
      rest_is = some;
      least = λ other list above is. above;
    }

among_some : (p : List ℕ → Bool) (lists : List (List ℕ)) (low count octet : ℕ) (rest : List ℕ)
    → low ≤ octet → octet < low + count → find (λ list. p (octet ∷ list)) lists ≡ Some rest
    → (found : List ℕ) × (among p lists low count ≡ Some found)
among_some p lists low zero octet rest from below is = absurd (omega arith)
among_some p lists low (suc count) octet rest from below is =
    by (find (λ list. p (low ∷ list)) lists) refl (among_some p lists (low + 1) count octet rest)
  where
    by : (first : Option (List ℕ)) → find (λ list. p (low ∷ list)) lists ≡ first
        → (low + 1 ≤ octet → octet < (low + 1) + count → find (λ list. p (octet ∷ list)) lists ≡ Some rest
        → (found : List ℕ) × (among p lists (low + 1) count ≡ Some found))
        → (found : List ℕ) × (among p lists low (suc count) ≡ Some found)
    by (Some list) some hypothesis = (
      low ∷ list,
      among_more p lists low count
          ∙ ap (λ first. option_or (option_map (λ list. low ∷ list) first) (among p lists (low + 1) count)) some,
    )
    by None none hypothesis = elim (cases_eq octet low) [
      | inl same ↦ absurd (let both = sym none ∙ ap (λ o. find (λ list. p (o ∷ list)) lists) (sym same) ∙ is in cc)
      | inr apart ↦
          let later = hypothesis (omega arith) (omega arith) is in (
            later.0,
            among_more p lists low count
                ∙ ap (λ first. option_or (option_map (λ list. low ∷ list) first) (among p lists (low + 1) count)) none
                ∙ later.1,
          )
    ]

-- ---- all lists

first_of_all : (n : ℕ) (p : List ℕ → Bool) (found : List ℕ) → find p (all_octets (suc n)) ≡ Some found
    → IsFirst p (all_octets n) 0 256 found
unfolding all_octets
first_of_all n p found is = among_first p (all_octets n) 0 256 found is

some_of_all : (n : ℕ) (p : List ℕ → Bool) (octet : ℕ) (rest : List ℕ) → octet < 256
    → find (λ list. p (octet ∷ list)) (all_octets n) ≡ Some rest
    → (found : List ℕ) × (find p (all_octets (suc n)) ≡ Some found)
unfolding all_octets
some_of_all n p octet rest small is = among_some p (all_octets n) 0 256 octet rest (omega arith) small is

no_octets : (p : List ℕ → Bool) → find p (all_octets zero) ≡ cond (p []) (Some []) None
unfolding all_octets
no_octets p = refl

-- a list that was found
pub record IsFound (n : ℕ) (p : List ℕ → Bool) (found : List ℕ) : Type 0 where
  pub size : length found ≡ n
  pub small : AreOctets found
  pub passes : p found ≡ true

pub more_octets : (front : ℕ) (rest : List ℕ) → front < 256 → AreOctets rest → AreOctets (front ∷ rest)
more_octets front rest small later zero = small
more_octets front rest small later (suc i) = later i

pub found_in_all : (n : ℕ) (p : List ℕ → Bool) (found : List ℕ) → find p (all_octets n) ≡ Some found → IsFound n p found
found_in_all zero p found is = by (p []) refl (sym (no_octets p) ∙ is) where
  by : (passes : Bool) → p [] ≡ passes → cond {A = Option (List ℕ)} passes (Some []) None ≡ Some found
      → IsFound zero p found
  by true passes said =
      let none : found ≡ [] = cc in
      record {
        size = ap length none;
        small = λ i. rw none (omega arith);
        passes = ap p none ∙ passes;
      }
  by false passes said = absurd cc
found_in_all (suc n) p found is =
    let first = first_of_all n p found is in
    let later = found_in_all n (λ list. p (first.front ∷ list)) first.rest first.rest_is in
    record {
      size = ap length first.found_is ∙ ap suc later.size;
      small = λ i. rw first.found_is (more_octets first.front first.rest first.below later.small i);
      passes = ap p first.found_is ∙ later.passes;
    }

pub there_in_all : (n : ℕ) (p : List ℕ → Bool) (octets : List ℕ) → IsFound n p octets
    → (found : List ℕ) × (find p (all_octets n) ≡ Some found)
there_in_all zero p [] is = ([], no_octets p ∙ ap (λ b. cond {A = Option (List ℕ)} b (Some []) None) is.passes)
there_in_all zero p (octet ∷ rest) is = absurd (let size = is.size in cc)
there_in_all (suc n) p [] is = absurd (let size = is.size in cc)
there_in_all (suc n) p (octet ∷ rest) is =
    let later = there_in_all n (λ list. p (octet ∷ list)) rest (record {
      size = omega (arith, is.size);
      small = λ i. is.small (suc i);
      passes = is.passes;
    }) in
    some_of_all n p octet later.0 (is.small 0) later.1

-- no list that passes has a lesser octet in front than the one that is found
pub least_in_all : (n : ℕ) (p : List ℕ → Bool) (found : List ℕ) (octet : ℕ) (rest : List ℕ)
    → find p (all_octets (suc n)) ≡ Some found → IsFound (suc n) p (octet ∷ rest) → get_or found 0 0 ≤ octet
least_in_all n p found octet rest is other =
    let first = first_of_all n p found is in
    let there = there_in_all n (λ list. p (octet ∷ list)) rest (record {
      size = omega (arith, other.size);
      small = λ i. other.small (suc i);
      passes = other.passes;
    }) in
    let least = first.least octet there.0 (omega arith) there.1 in
    omega (arith, least, ap (λ list. get_or list 0 0) first.found_is)
