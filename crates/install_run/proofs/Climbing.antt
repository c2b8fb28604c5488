-- Raises go up: what some of them leave is nowhere below what was there.
use Rattle.std.proofs.Common.{◌≡◌, inl, inr, ℕ, ◌≤◌, List, [], ◌∷◌, ◌++◌, length, refl, sym, subst, arith}
use Rattle.std.specs.Prelude.{slice_index, slice_set}
use Rattle.std.proofs.lemmas.Bool.{cases_eq, cases_lt}
use Rattle.std.proofs.lemmas.List.{length-set, get_or-set_same, get_or-set_other, get_or_past}
use Rattle.seq_store.specs.Runs.{Numbers, Raise, Reserve, Mark, RestoresNumbers, RestoresSome, numbers_in, after_raise, after_raises}
use Rattle.seq_store.proofs.Keeping.{has_its_numbers}
use Rattle.install_run.specs.Histories.{NoneFalls}

-- to a number that is not below the one that is there
abbrev pub IsUp : Raise → Numbers → Type 0
IsUp (Reserve k) n = n.reserved ≤ k
IsUp (Mark lane k) n = slice_index n.marks lane ≤ k

-- each of them, over the numbers that those before it leave
abbrev pub Climbs : List Raise → Numbers → Type 0
Climbs [] n = Unit {0}
Climbs (r ∷ rs) n = IsUp r n × Climbs rs (after_raise r n)

pub record NumbersUp (old new : Numbers) : Type 0 where
  pub reserved : old.reserved ≤ new.reserved
  pub marks : NoneFalls old.marks new.marks

pub up_same : (n : Numbers) → NumbersUp n n
up_same n = record { reserved = omega arith; marks = λ lane. omega arith }

pub up_trans : (a b c : Numbers) → NumbersUp a b → NumbersUp b c → NumbersUp a c
up_trans a b c first then_up = record {
  reserved = omega (arith, first.reserved, then_up.reserved);
  marks = λ lane. let low = first.marks lane in let high = then_up.marks lane in omega (arith, low, high);
}

mark_up : (marks : List ℕ) (lane k i : ℕ) → slice_index marks lane ≤ k
    → slice_index marks i ≤ slice_index (slice_set marks lane k) i
mark_up marks lane k i up = elim (cases_eq i lane) [
  | inl same ↦ subst (λ i. slice_index marks i ≤ slice_index (slice_set marks lane k) i) (sym same)
      (elim (cases_lt lane (length marks)) [
        | inl below ↦
            let e : slice_index (slice_set marks lane k) lane ≡ k = get_or-set_same marks lane k 0 below in
            omega (arith, e, up)
        | inr past ↦
            let e : slice_index marks lane ≡ 0 = get_or_past marks lane 0 past in
            omega (arith, e)
      ])
  | inr other ↦
      let e : slice_index (slice_set marks lane k) i ≡ slice_index marks i =
      get_or-set_other marks lane i k 0 other in
      omega (arith, e)
]

pub up_raise : (r : Raise) (n : Numbers) → IsUp r n → NumbersUp n (after_raise r n)
up_raise (Reserve k) n up = record { reserved = up; marks = λ lane. omega arith }
up_raise (Mark lane k) n up = record { reserved = omega arith; marks = λ i. mark_up n.marks lane k i up }

pub same_lanes : (r : Raise) (n : Numbers) → length (after_raise r n).marks ≡ length n.marks
same_lanes (Reserve k) n = refl
same_lanes (Mark lane k) n = length-set n.marks lane k

pub up_raises : (rs : List Raise) (n : Numbers) → Climbs rs n → NumbersUp n (after_raises rs n)
up_raises [] n climbs = up_same n
up_raises (r ∷ rs) n climbs =
    up_trans n (after_raise r n) (after_raises rs (after_raise r n)) (up_raise r n climbs.0)
    (up_raises rs (after_raise r n) climbs.1)

restored_up : (n : Numbers) (image : List ℕ) → RestoresNumbers n image
    → NumbersUp n (numbers_in (length n.marks) image)
restored_up n image restores = subst (NumbersUp n) (sym ((has_its_numbers image).those n restores)) (up_same n)

-- An image that some of the raises left restores nothing below.
pub up_some : (rs : List Raise) (n : Numbers) (image : List ℕ) → Climbs rs n → RestoresSome rs n image
    → NumbersUp n (numbers_in (length n.marks) image)
up_some [] n image climbs is = restored_up n image is
up_some (r ∷ rs) n image climbs (inl is) = restored_up n image is
up_some (r ∷ rs) n image climbs (inr rest) =
    up_trans n (after_raise r n) (numbers_in (length n.marks) image) (up_raise r n climbs.0)
    (subst (λ lanes. NumbersUp (after_raise r n) (numbers_in lanes image)) (same_lanes r n)
    (up_some rs (after_raise r n) image climbs.1 rest))

pub climbs_append : (xs ys : List Raise) (n : Numbers) → Climbs xs n → Climbs ys (after_raises xs n)
    → Climbs (xs ++ ys) n
climbs_append [] ys n first then_climbs = then_climbs
climbs_append (x ∷ xs) ys n first then_climbs =
    (first.0, climbs_append xs ys (after_raise x n) first.1 then_climbs)

pub after_append : (xs ys : List Raise) (n : Numbers) → after_raises (xs ++ ys) n ≡ after_raises ys (after_raises xs n)
after_append [] ys n = refl
after_append (x ∷ xs) ys n = after_append xs ys (after_raise x n)
