-- What is wrong with a secure frame first.
use Rattle.std.proofs.Common.{◌≡◌, ℕ, zero, suc, ◌-◌, ◌<◌, ◌≤◌, Bool, true, false, cond, List, [], ◌∷◌, length, drop, length-drop, Option, Some, None, refl, sym, ap, ◌∙◌, subst, arith}
use Rattle.std.specs.Prelude.{slice_index, find, option_map, nat_lt, ◌==◌, ◌&&◌, ◌||◌, if◌then◌else◌, ◌↔◌, IsTrue}
use Rattle.std.proofs.lemmas.Bool.{lt-ltb, le-ltb, ltb-false, eq-eqb, eqb-true, false≢true, ne_eqb}
use Rattle.secure_apdu.specs.declared.secure.BadSecure.{BadSecure}
use Rattle.secure_apdu.specs.declared.secure.BadSecure.TheVariants as bad
use Rattle.secure_apdu.specs.Secure.{Test, test, algorithm_of, service_of, is_broadcast, is_unknown, is_sync, is_misfit, field_tests, first_fault, bad_secure, HasParts}

-- the first test decides where it applies, and the others where it does not
first_applies : (applies : Bool) (fault : BadSecure) (tests : List Test) → applies ≡ true
    → first_fault (test applies fault ∷ tests) ≡ Some fault
first_applies applies fault tests is =
    ap (λ (b : Bool). option_map (λ (found : Test). found.fault)
    (cond b (Some (test applies fault)) (find (λ (each : Test). each.applies) tests))) is

first_passes : (applies : Bool) (fault : BadSecure) (tests : List Test) → applies ≡ false
    → first_fault (test applies fault ∷ tests) ≡ first_fault tests
first_passes applies fault tests is =
    ap (λ (b : Bool). option_map (λ (found : Test). found.fault)
    (cond b (Some (test applies fault)) (find (λ (each : Test). each.applies) tests))) is

pub bad_secure-short : (content : List ℕ) (group : Bool) → length content < 15
    → bad_secure content group ≡ Some (bad.Short (length content - 2))
unfolding bad_secure
bad_secure-short content group short =
    first_applies (nat_lt (length content - 2) 13) (bad.Short (length content - 2))
    (field_tests (slice_index content 2) (length content - 13) group)
    (lt-ltb (length content - 2) 13 (omega arith))

pub bad_secure-long : (content : List ℕ) (group : Bool) → 15 ≤ length content
    → bad_secure content group ≡ first_fault (field_tests (slice_index content 2) (length content - 13) group)
unfolding bad_secure
bad_secure-long content group long =
    first_passes (nat_lt (length content - 2) 13) (bad.Short (length content - 2))
    (field_tests (slice_index content 2) (length content - 13) group)
    (le-ltb (length content - 2) 13 (omega arith))

-- an answer to a question on a bit is the test of that bit
pub same_test : (b : Bool) (n : ℕ) → (IsTrue b ↔ (n ≡ 1)) → b ≡ (n == 1)
same_test true n says = sym (eq-eqb n 1 (says.0 refl))
same_test false n says = by_value (n == 1) refl where
  by_value : (t : Bool) → (n == 1) ≡ t → false ≡ (n == 1)
  by_value true is = absurd (false≢true (says.1 (eqb-true n 1 is)))
  by_value false is = sym is

-- the tests after that of the algorithm
abbrev later_tests : ℕ → ℕ → Bool → List Test
later_tests field length group = drop 1 (field_tests field length group)

-- no test applies where none is the first
passes : (applies : Bool) (fault : BadSecure) (tests : List Test) → first_fault (test applies fault ∷ tests) ≡ None
    → (applies ≡ false) × (first_fault tests ≡ None)
passes true fault tests none = absurd cc
passes false fault tests none = (refl, none)

pub faultless_length : (content : List ℕ) (group : Bool) → bad_secure content group ≡ None → 15 ≤ length content
unfolding bad_secure
faultless_length content group none =
    let long = passes (nat_lt (length content - 2) 13) (bad.Short (length content - 2))
    (field_tests (slice_index content 2) (length content - 13) group) none in
    omega (arith, ltb-false (length content - 2) 13 long.0)

pub faultless_algorithm : (content : List ℕ) (group : Bool) → bad_secure content group ≡ None
    → algorithm_of (slice_index content 2) ≤ 1
unfolding bad_secure
faultless_algorithm content group none =
    let long = passes (nat_lt (length content - 2) 13) (bad.Short (length content - 2))
    (field_tests (slice_index content 2) (length content - 13) group) none in
    let known =
    passes (nat_lt 1 (algorithm_of (slice_index content 2))) (bad.Algorithm (algorithm_of (slice_index content 2)))
    (later_tests (slice_index content 2) (length content - 13) group) long.1 in
    ltb-false 1 (algorithm_of (slice_index content 2)) known.0

pub open_body : (content : List ℕ) (group : Bool) (field shown : ℕ) (body : List ℕ) → bad_secure content group ≡ None
    → HasParts content field shown body → length content ≤ 255
    → (algorithm_of field ≤ 1) × (4 ≤ length body) × (length body ≤ 246)
open_body content group field shown body none parts short =
    let long = faultless_length content group none in
    let same : length body ≡ length content - 9 = ap length parts.body_is ∙ length-drop 9 content in (
      subst (λ (f : ℕ). algorithm_of f ≤ 1) (sym parts.field_is) (faultless_algorithm content group none),
      omega (arith, long, same),
      omega (arith, short, same),
    )

-- a long frame has the fault of its control field, by the answer to the question on its destination
pub bad_secure_from : (content : List ℕ) (group : ℕ) (asked : Bool) (answer : Option BadSecure) → 15 ≤ length content
    → (IsTrue asked ↔ (group ≡ 1)) → answer ≡ first_fault (field_tests (slice_index content 2) (length content - 13)
    asked)
    → bad_secure content (group == 1) ≡ answer
bad_secure_from content group asked answer long says is =
    bad_secure-long content (group == 1) long
    ∙ ap (λ (b : Bool). first_fault (field_tests (slice_index content 2) (length content - 13) b))
    (sym (same_test asked group says))
    ∙ sym is

misfit-fits : (fits a b : Bool) → (if fits then false else true) || a || b ≡ false → fits ≡ true
misfit-fits true a b said = refl
misfit-fits false a b said = absurd cc

is_unknown-above : (n : ℕ) → true ≡ is_unknown (suc (suc (suc (suc n))))
is_unknown-above n =
    let above : ℕ = suc (suc (suc (suc n))) in
    λ i. if sym (ne_eqb above 0 (λ same. absurd (omega (arith, same)))) i then false
    else if sym (ne_eqb above 2 (λ same. absurd (omega (arith, same)))) i then false
    else if sym (ne_eqb above 3 (λ same. absurd (omega (arith, same)))) i then false else true

known-fits : (service size : ℕ) (a b : Bool) → is_unknown service ≡ false → is_sync service
    && (is_misfit service size || a || b) ≡ false
    → (service ≡ 2 → size ≡ 6) × ((service ≡ 0 → ⊥) → (service ≡ 2 → ⊥) → size ≡ 12)
known-fits zero size a b known said = (λ two. absurd cc, λ not_data not_ask. absurd (not_data refl))
known-fits (suc zero) size a b known said = absurd cc
known-fits (suc (suc zero)) size a b known said =
    (λ two. eqb-true size 6 (misfit-fits (size == 6) a b said), λ not_data not_ask. absurd (not_ask refl))
known-fits (suc (suc (suc zero))) size a b known said =
    (λ two. absurd cc, λ not_data not_ask. eqb-true size 12 (misfit-fits (size == 12) a b said))
known-fits (suc (suc (suc (suc n)))) size a b known said =
    absurd (false≢true (sym (is_unknown-above n ∙ known)))

-- a request of synchronisation has six octets of an APDU, an answer twelve, and what is neither is data
pub faultless_sync : (content : List ℕ) (group : Bool) → bad_secure content group ≡ None
    → (service_of (slice_index content 2) ≡ 2 → length content ≡ 19)
    × ((service_of (slice_index content 2) ≡ 0 → ⊥) → (service_of (slice_index content 2) ≡ 2 → ⊥)
    → length content ≡ 25)
unfolding bad_secure
faultless_sync content group none =
    let field : ℕ = slice_index content 2 in
    let size : ℕ = length content - 13 in
    let first =
    passes (nat_lt (length content - 2) 13) (bad.Short (length content - 2)) (field_tests field size group) none in
    let second = passes (nat_lt 1 (algorithm_of field)) (bad.Algorithm (algorithm_of field))
    (later_tests field size group) first.1 in
    let third = passes (is_broadcast field) bad.Broadcast (drop 2 (field_tests field size group)) second.1 in
    let fourth = passes (is_unknown (service_of field)) (bad.Service (service_of field))
    (drop 3 (field_tests field size group)) third.1 in
    let last = passes (is_sync (service_of field) && (is_misfit (service_of field) size || algorithm_of field == 0
    || group)) (bad.Sync field size) [] fourth.1 in
    let fits = known-fits (service_of field) size (algorithm_of field == 0) group fourth.0 last.0 in (
      λ two. let six : size ≡ 6 = fits.0 two in omega (arith, six),
      λ not_data not_ask. let twelve : size ≡ 12 = fits.1 not_data not_ask in omega (arith, twelve),
    )
