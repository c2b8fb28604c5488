-- Raises in turn over any image that restores numbers, and what a plan makes of them.
use Rattle.std.proofs.Common.{◌≡◌, ◌⊎◌, ℕ, ◌+◌, ◌<◌, ◌≤◌, zero, suc, List, [], ◌∷◌, ◌++◌, length, Option, None, Some, refl, sym, ap, subst, ◌∙◌, inl, inr, arith}
use Rattle.std.specs.Prelude.{slice_index, unwrap_or, IsSome}
use Rattle.std.specs.List.{All}
use Rattle.std.proofs.lemmas.List.Elements.{All-nil, All-head, All-tail, All-append}
use Rattle.nvm_model.specs.Plan.{strike}
use Rattle.nvm_model.specs.Write.{Write, FitsIn, put, written, Reached}
use Rattle.nvm_model.proofs.Lists.{written-append, length-put}
use Rattle.seq_store.specs.Keeps.{MayRun, KeepsNumbers, HasItsNumbers}
use Rattle.seq_store.specs.Laws.{Ready, restore, restore_reserved, MayRaise, HasRaiseLaws}
use Rattle.seq_store.specs.Layout.{most_lanes, store_size, raise_writes}
use Rattle.seq_store.specs.Runs.{Numbers, RestoresNumbers, marks_from, numbers_in, Raise, Reserve, Mark, value_raised, number_raised, IsAbove, AreAbove, after_raise, after_raises, writes_of, RestoresSome}
use Rattle.seq_store.proofs.Strikes.{strike_reached, strike_whole}
use Rattle.seq_store.proofs.RaiseLaws.{raises_whole}
use Rattle.seq_store.proofs.Starts.{restores_ready}
use Rattle.seq_store.proofs.Restored.{InRange, restores_raised, restores_some, numbers_restored}
use Rattle.seq_store.proofs.Running.{same_lanes, some_now}

in_range : (r : Raise) (numbers : Numbers) → IsAbove r numbers → InRange r numbers
in_range (Reserve n) numbers above = tt
in_range (Mark lane n) numbers above = above.0

-- such a raise may be made
may : (r : Raise) (numbers : Numbers) (image : List ℕ) → length numbers.marks ≤ most_lanes
    → RestoresNumbers numbers image → IsAbove r numbers
    → MayRaise (length numbers.marks) image (value_raised r) (number_raised r)
may (Reserve n) numbers image lanes_fit restores above = record {
  lanes_fit = lanes_fit;
  ready = restores_ready image numbers.reserved numbers.marks restores;
  in_range = omega arith;
  old = numbers.reserved;
  here = restores.reserved;
  above = above.0;
  fits = above.1;
}
may (Mark lane n) numbers image lanes_fit restores above = record {
  lanes_fit = lanes_fit;
  ready = restores_ready image numbers.reserved numbers.marks restores;
  in_range = omega (arith, above.0);
  old = slice_index numbers.marks lane;
  here = restores.each lane above.0;
  above = above.1;
  fits = above.2;
}

-- the moments of writes in two parts
reached_parts : (xs ys : List Write) (a c : List ℕ) → Reached (xs ++ ys) a c → Reached xs a c
    ⊎ Reached ys (written xs a) c
reached_parts [] ys a c reached = inr reached
reached_parts (x ∷ xs) ys a c (inl torn) = inl (inl torn)
reached_parts (x ∷ xs) ys a c (inr behind) = elim (reached_parts xs ys (put x a) c behind) [
  | inl first ↦ inl (inr first)
  | inr then ↦ inr then
]

keeps_torn : (raises : List Raise) (numbers : Numbers) (image : List ℕ) → length numbers.marks ≤ most_lanes
    → RestoresNumbers numbers image → AreAbove raises numbers
    → (c : List ℕ) → Reached (writes_of (length numbers.marks) raises image) image c → RestoresSome raises numbers c
keeps_torn [] numbers image lanes_fit restores above c reached = subst (RestoresNumbers numbers) (sym reached) restores
keeps_torn (r ∷ rs) numbers image lanes_fit restores above c reached =
    let lanes : ℕ = length numbers.marks in
    let first : List Write = raise_writes (length numbers.marks) image (value_raised r) (number_raised r) in
    let laws : HasRaiseLaws (length numbers.marks) image (value_raised r) (number_raised r) =
    raises_whole _ _ _ image (may r numbers image lanes_fit restores above.0) in
    let next : RestoresNumbers (after_raise r numbers) (written first image) =
    restores_raised r numbers image (written first image) (in_range r numbers above.0) restores laws.whole in
    let same : length (after_raise r numbers).marks ≡ length numbers.marks = same_lanes (r ∷ []) numbers in
    elim (reached_parts first (writes_of (length numbers.marks) rs (written first image)) image c reached) [
      | inl here ↦ elim (restores_some r numbers image c (in_range r numbers above.0) restores (laws.torn c here)) [
        | inl old ↦ inl old
        | inr new ↦ inr (some_now rs (after_raise r numbers) c new)
      ]
      | inr behind ↦ inr (keeps_torn rs (after_raise r numbers) (written first image) (omega (arith, same, lanes_fit))
          next above.1 c
          (subst (λ lanes. Reached (writes_of lanes rs (written first image)) (written first image) c) (sym same)
          behind))
    ]

keeps_whole : (raises : List Raise) (numbers : Numbers) (image : List ℕ) → length numbers.marks ≤ most_lanes
    → RestoresNumbers numbers image → AreAbove raises numbers
    → RestoresNumbers (after_raises raises numbers) (written (writes_of (length numbers.marks) raises image) image)
keeps_whole [] numbers image lanes_fit restores above = restores
keeps_whole (r ∷ rs) numbers image lanes_fit restores above =
    let first : List Write = raise_writes (length numbers.marks) image (value_raised r) (number_raised r) in
    let laws : HasRaiseLaws (length numbers.marks) image (value_raised r) (number_raised r) =
    raises_whole _ _ _ image (may r numbers image lanes_fit restores above.0) in
    let next : RestoresNumbers (after_raise r numbers) (written first image) =
    restores_raised r numbers image (written first image) (in_range r numbers above.0) restores laws.whole in
    let same : length (after_raise r numbers).marks ≡ length numbers.marks = same_lanes (r ∷ []) numbers in
    subst (RestoresNumbers (after_raises rs (after_raise r numbers)))
    (ap (λ lanes. written (writes_of lanes rs (written first image)) (written first image)) same
    ∙ sym (written-append first (writes_of (length numbers.marks) rs (written first image)) image))
    (keeps_whole rs (after_raise r numbers) (written first image) (omega (arith, same, lanes_fit)) next above.1)

-- every write of the raises lies in the image
length-written : (ws : List Write) (a : List ℕ) → All (FitsIn (length a)) ws → length (written ws a) ≡ length a
length-written [] a fit = refl
length-written (w ∷ ws) a fit =
    let same : length (put w a) ≡ length a = length-put w a (All-head (FitsIn (length a)) w ws fit).inside in
    length-written ws (put w a) (subst (λ n. All (FitsIn n) ws) (sym same) (All-tail (FitsIn (length a)) w ws fit))
    ∙ same

keeps_fit : (raises : List Raise) (numbers : Numbers) (image : List ℕ) → length numbers.marks ≤ most_lanes
    → RestoresNumbers numbers image → AreAbove raises numbers
    → All (FitsIn (length image)) (writes_of (length numbers.marks) raises image)
keeps_fit [] numbers image lanes_fit restores above = All-nil (FitsIn (length image))
keeps_fit (r ∷ rs) numbers image lanes_fit restores above =
    let first : List Write = raise_writes (length numbers.marks) image (value_raised r) (number_raised r) in
    let laws : HasRaiseLaws (length numbers.marks) image (value_raised r) (number_raised r) =
    raises_whole _ _ _ image (may r numbers image lanes_fit restores above.0) in
    let next : RestoresNumbers (after_raise r numbers) (written first image) =
    restores_raised r numbers image (written first image) (in_range r numbers above.0) restores laws.whole in
    let same : length (after_raise r numbers).marks ≡ length numbers.marks = same_lanes (r ∷ []) numbers in
    All-append (FitsIn (length image)) first (writes_of (length numbers.marks) rs (written first image))
    laws.few.each_fits
    (subst (λ n. All (FitsIn n) (writes_of (length numbers.marks) rs (written first image)))
    (length-written first image laws.few.each_fits)
    (subst (λ lanes. All (FitsIn (length (written first image))) (writes_of lanes rs (written first image))) same
    (keeps_fit rs (after_raise r numbers) (written first image) (omega (arith, same, lanes_fit)) next above.1)))

pub keeps : (numbers : Numbers) (raises : List Raise) (image : List ℕ) → MayRun numbers raises image
    → KeepsNumbers numbers raises image
keeps numbers raises image may =
    let writes : List Write = writes_of (length numbers.marks) raises image in
    let whole : RestoresNumbers (after_raises raises numbers) (written writes image) =
    keeps_whole raises numbers image may.lanes_fit may.restores may.above in
    record {
      torn = keeps_torn raises numbers image may.lanes_fit may.restores may.above;
      whole = whole;
      struck =
          λ plan. keeps_torn raises numbers image may.lanes_fit may.restores may.above (strike writes plan image).octets
          (strike_reached writes plan image (keeps_fit raises numbers image may.lanes_fit may.restores may.above));
      not_struck = λ plan ok. subst (RestoresNumbers (after_raises raises numbers))
          (sym (strike_whole writes plan image ok)) whole;
    }

length-marks_from : (lanes : ℕ) (image : List ℕ) (lane n : ℕ) → length (marks_from lanes image lane n) ≡ n
length-marks_from lanes image lane zero = refl
length-marks_from lanes image lane (suc n) = ap suc (length-marks_from lanes image (lane + 1) n)

some_of : (o : Option ℕ) → IsSome o → o ≡ Some (unwrap_or o 0)
some_of None is = absurd cc
some_of (Some n) is = refl

mark_from : (lanes : ℕ) (image : List ℕ) (lane n k : ℕ) → k < n
    → slice_index (marks_from lanes image lane n) k ≡ unwrap_or (restore lanes image (lane + k)) 0
mark_from lanes image lane zero k below = absurd (omega (arith, below))
mark_from lanes image lane (suc n) zero below = ap (λ lane. unwrap_or (restore lanes image lane) 0) (omega arith)
mark_from lanes image lane (suc n) (suc k) below =
    mark_from lanes image (lane + 1) n k (omega (arith, below))
    ∙ ap (λ lane. unwrap_or (restore lanes image lane) 0) (omega arith)

ready_restores : (lanes : ℕ) (image : List ℕ) → Ready lanes image → RestoresNumbers (numbers_in lanes image) image
ready_restores lanes image ready =
    let same : lanes ≡ length (marks_from lanes image 0 lanes) = sym (length-marks_from lanes image 0 lanes) in
    record {
      size = subst (λ n. length image ≡ store_size n) same ready.size;
      reserved = subst (λ n. restore_reserved n image ≡ Some (unwrap_or (restore_reserved lanes image) 0)) same
          (some_of (restore_reserved lanes image) (ready.values 0 (omega arith)));
      each = λ lane in_range. subst (λ n. restore n image lane
          ≡ Some (slice_index (marks_from lanes image 0 lanes) lane)) same
          (let below : lane < lanes = omega (arith, in_range, same) in
          some_of (restore lanes image lane) (ready.values (1 + lane) (omega (arith, below)))
          ∙ ap Some (ap (λ k. unwrap_or (restore lanes image k) 0) (omega arith)
          ∙ sym (mark_from lanes image 0 lanes lane below)));
    }

pub has_its_numbers : (image : List ℕ) → HasItsNumbers image
has_its_numbers image = record {
  those = λ numbers restores. numbers_restored numbers image restores;
  ready = λ lanes ready. ready_restores lanes image ready;
  lanes = λ lanes. length-marks_from lanes image 0 lanes;
}
