-- The laws of a raise, where a memory is a ring. Here, and in the answers of src/layout.rt, the ring is known.
use Rattle.std.proofs.Common.{◌≡◌, ◌≢◌, ◌⊎◌, ℕ, ◌+◌, ◌*◌, ◌/◌, ◌^◌, ◌<◌, ◌≤◌, List, length, Option, Some, None, refl, sym, ap, subst, ◌∙◌, inl, inr, arith}
use Rattle.std.specs.Prelude.{IsSome}
use Rattle.std.specs.List.{All}
use Rattle.nvm_model.specs.Write.{FitsIn, written, Reached}
use Rattle.nvm_model.proofs.Lists.{reached_whole}
use Rattle.seq_store.specs.Layout.{width, store_size, value_of, raise_writes}
use Rattle.seq_store.specs.Laws.{Ready, IsRaised, IsOldOrRaised, MayRaise, HasFewWrites, HasRaiseLaws}
use Rattle.seq_store.specs.Ring.{bank_value, banks_of, value_in, writes_in, replaced}
use Rattle.seq_store.specs.declared.bank.Banks.{Banks}
use Rattle.seq_store.proofs.Bodies.{Indexes}
use Rattle.seq_store.proofs.Rings.{Shows, IsRingMoment, ring_moment, ring_whole, ring_few, ring_fit}
use Rattle.seq_store.proofs.Turn.{replaced_here, replaced_other}

-- what a ring shows are the values of the memory
pub shown_value : (lanes : ℕ) (c : List ℕ) (value : ℕ → ℕ) → Shows width (1 + lanes) 0 c value → (w : ℕ) → w ≤ lanes
    → value_of lanes c w ≡ Some (value w)
unfolding value_of
shown_value lanes c value shows w in_range =
    ap (value_in width (1 + lanes) c w) shows.found ∙ ap Some (shows.each w (omega (arith, in_range)))

pub shown_ready : (lanes : ℕ) (c : List ℕ) (value : ℕ → ℕ) → length c ≡ store_size lanes
    → Shows width (1 + lanes) 0 c value → Ready lanes c
shown_ready lanes c value size shows = record {
  size = size;
  values = λ w in_range. subst IsSome (sym (shown_value lanes c value shows w in_range)) refl;
}

module _ (lanes v n : ℕ) (a : List ℕ) (may : MayRaise lanes a v n) (banks : Banks)
    (found : banks_of width (1 + lanes) 0 a ≡ Some banks) where
  pub value_is : (w : ℕ) → value_of lanes a w ≡ Some (bank_value width (1 + lanes) a banks.current w)
  unfolding value_of
  value_is w = ap (value_in width (1 + lanes) a w) found

  pub above : bank_value width (1 + lanes) a banks.current v < n
  above = let same : bank_value width (1 + lanes) a banks.current v ≡ may.old = cc (sym (value_is v) ∙ may.here) in
      omega (arith, same, may.above)

  pub index_fits : Indexes width v
  unfolding Indexes
  index_fits = omega (arith, may.in_range, may.lanes_fit)

  pub writes_are : raise_writes lanes a v n ≡ writes_in width (1 + lanes) a v n (Some banks)
  unfolding raise_writes
  writes_are = ap (writes_in width (1 + lanes) a v n) found

  others_in : (w : ℕ) → w ≢ v → replaced width (1 + lanes) a banks.current v n w
      ≡ bank_value width (1 + lanes) a banks.current w
  others_in w other = replaced_other width (1 + lanes) a banks.current v n w other

  raised : (c : List ℕ) → length c ≡ length a → Shows width (1 + lanes) 0 c
      (replaced width (1 + lanes) a banks.current v n) → IsRaised lanes a v n c
  raised c size shows = record {
    ready = shown_ready lanes c (replaced width (1 + lanes) a banks.current v n) (size ∙ may.ready.size) shows;
    here = shown_value lanes c (replaced width (1 + lanes) a banks.current v n) shows v may.in_range
        ∙ ap Some (replaced_here width (1 + lanes) a banks.current v n);
    others = λ w in_range other.
        shown_value lanes c (replaced width (1 + lanes) a banks.current v n) shows w in_range
        ∙ ap Some (others_in w other) ∙ sym (value_is w);
  }

  old_or_raised : (c : List ℕ) → IsRingMoment width (1 + lanes) 0 a banks v n c → IsOldOrRaised lanes a v n c
  old_or_raised c moment = elim moment.shows [
    | inl old ↦ record {
      ready = shown_ready lanes c (bank_value width (1 + lanes) a banks.current) (moment.size ∙ may.ready.size) old;
      here = inl (shown_value lanes c (bank_value width (1 + lanes) a banks.current) old v may.in_range
          ∙ sym (value_is v));
      others = λ w in_range other. shown_value lanes c (bank_value width (1 + lanes) a banks.current) old w in_range
          ∙ sym (value_is w);
    }
    | inr new ↦
        let is : IsRaised lanes a v n c = raised c moment.size new in
        record { ready = is.ready; here = inr is.here; others = is.others }
  ]

  ring_inside : 0 + 2 * (9 + 6 * (1 + lanes) + 16 * (7 + width)) ≤ length a
  ring_inside = omega (arith, may.ready.size)

  few_values : 1 + lanes ≤ 2 ^ 15
  few_values = omega (arith, may.lanes_fit)

  torn : (c : List ℕ) → Reached (raise_writes lanes a v n) a c → IsOldOrRaised lanes a v n c
  torn c reached =
      old_or_raised c
      (ring_moment width (1 + lanes) 0 a banks found ring_inside few_values v n (omega (arith, may.in_range)) index_fits
      may.fits above c
      (subst (λ ws. Reached ws a c) writes_are reached))

  whole_size : length (written (writes_in width (1 + lanes) a v n (Some banks)) a) ≡ length a
  whole_size =
      (ring_moment width (1 + lanes) 0 a banks found ring_inside few_values v n (omega (arith, may.in_range)) index_fits
      may.fits above
      (written (writes_in width (1 + lanes) a v n (Some banks)) a)
      (reached_whole (writes_in width (1 + lanes) a v n (Some banks)) a)).size

  laws : HasRaiseLaws lanes a v n
  laws = record {
    few = record {
      at_most_three = subst (λ ws. length ws ≤ 3) (sym writes_are)
          (ring_few width (1 + lanes) 0 a banks found ring_inside few_values v n (omega (arith, may.in_range))
          index_fits may.fits above);
      each_fits = subst (All (FitsIn (length a))) (sym writes_are)
          (ring_fit width (1 + lanes) 0 a banks found ring_inside few_values v n (omega (arith, may.in_range))
          index_fits may.fits above);
    };
    whole = subst (λ ws. IsRaised lanes a v n (written ws a)) (sym writes_are)
        (raised (written (writes_in width (1 + lanes) a v n (Some banks)) a) whole_size
        (ring_whole width (1 + lanes) 0 a banks found ring_inside few_values v n (omega (arith, may.in_range))
        index_fits may.fits above));
    torn = torn;
  }

pub has_banks : (lanes v n : ℕ) (a : List ℕ) → MayRaise lanes a v n → banks_of width (1 + lanes) 0 a ≡ None → ⊥
unfolding value_of
has_banks lanes v n a may none = absurd (cc (sym (ap (value_in width (1 + lanes) a v) none) ∙ may.here))

by_banks : (lanes v n : ℕ) (a : List ℕ) (banks : Option Banks) → banks_of width (1 + lanes) 0 a ≡ banks
    → MayRaise lanes a v n → HasRaiseLaws lanes a v n
by_banks lanes v n a None found may = absurd (has_banks lanes v n a may found)
by_banks lanes v n a (Some banks) found may = laws lanes v n a may banks found

pub raises_whole : (lanes v n : ℕ) (image : List ℕ) → MayRaise lanes image v n → HasRaiseLaws lanes image v n
raises_whole lanes v n image may = by_banks lanes v n image (banks_of width (1 + lanes) 0 image) refl may
