-- A raise in a memory that a store agrees with, by the laws of the layout alone.
use Rattle.std.proofs.Common.{◌≡◌, ℕ, ◌+◌, ◌^◌, ◌-◌, ◌<◌, ◌≤◌, min, Bool, true, false, cond, leb-true, leb-false, List, length, Option, None, Some, refl, sym, ap, subst, ◌∙◌, inl, inr, arith}
use Rattle.std.specs.Prelude.{nat_le, slice_index, slice_set}
use Rattle.nvm_model.specs.Nvm.{State, Leaves, Makes}
use Rattle.nvm_model.specs.Write.{written}
use Rattle.nvm_model.specs.declared.fault.NvmFault.{NvmFault}
use Rattle.nvm_model.proofs.Runs.{makes_reached}
use Rattle.seq_store.specs.Agrees.{Agrees}
use Rattle.seq_store.specs.Draws.{reservation_for}
use Rattle.seq_store.specs.Layout.{most_lanes, value_of, raise_writes}
use Rattle.seq_store.specs.Laws.{Ready, IsRaised, MayRaise, HasRaiseLaws, Raises}
use Rattle.seq_store.proofs.RaiseLaws.{raises_whole}
use Rattle.seq_store.proofs.Restored.{restores_marked, restores_reserved}
use Rattle.seq_store.proofs.Starts.{restores_ready}

module _ (s : State) (marks : List ℕ) (last : ℕ) (agrees : Agrees s marks last) where
  ready : Ready (length marks) s.octets
  ready = restores_ready s.octets last marks agrees.restores

  -- a mark, and the last reserved number, may be raised
  pub may_raise : (lane n : ℕ) → length marks ≤ most_lanes → lane < length marks → slice_index marks lane < n
      → n < 2 ^ 48 → MayRaise (length marks) s.octets (1 + lane) n
  may_raise lane n lanes_fit in_range above fits = record {
    lanes_fit = lanes_fit;
    ready = ready;
    in_range = omega arith;
    old = slice_index marks lane;
    here = agrees.restores.each lane in_range;
    above = above;
    fits = fits;
  }

  pub may_reserve : (n : ℕ) → length marks ≤ most_lanes → last < n → n < 2 ^ 48 → MayRaise (length marks) s.octets 0 n
  may_reserve n lanes_fit above fits = record {
    lanes_fit = lanes_fit;
    ready = ready;
    in_range = omega arith;
    old = last;
    here = agrees.restores.reserved;
    above = above;
    fits = fits;
  }

  -- what the store agrees with after a raise of a mark
  pub agrees_raised : (lane n : ℕ) (b : State) → lane < length marks → b.powered ≡ true
      → IsRaised (length marks) s.octets (1 + lane) n b.octets → Agrees b (slice_set marks lane n) last
  agrees_raised lane n b in_range on raised = record {
    powered = on;
    fits = agrees.fits;
    restores = restores_marked s.octets b.octets last marks lane n in_range agrees.restores raised;
  }

  -- and after one of the last reserved number
  pub agrees_reserved : (n : ℕ) (b : State) → n < 2 ^ 48 → b.powered ≡ true
      → IsRaised (length marks) s.octets 0 n b.octets → Agrees b marks n
  agrees_reserved n b fits on raised = record {
    powered = on;
    fits = fits;
    restores = restores_reserved s.octets b.octets last marks n agrees.restores raised;
  }

  none_raised : IsRaised (length marks) s.octets 0 last s.octets
  none_raised = record { ready = ready; here = agrees.restores.reserved; others = λ w in_range other. refl }

  -- The number that is restored is the last reserved one.
  pub last_is : (l : ℕ) → value_of (length marks) s.octets 0 ≡ Some l → l ≡ last
  last_is l is = cc (sym is ∙ agrees.restores.reserved)

  by_test : (le : Bool) (next : ℕ) (c : List ℕ) → nat_le next last ≡ le → (next ≤ last → c ≡ s.octets)
      → (last < next → IsRaised (length marks) s.octets 0 (reservation_for last next) c)
      → IsRaised (length marks) s.octets 0 (reservation_for last next) c
  by_test true next c test unchanged raised =
      let here : reservation_for last next ≡ last = ap (λ le. cond le last (min (next + 63) (2 ^ 48 - 1))) test in
      subst (λ n. IsRaised (length marks) s.octets 0 n c) (sym here)
      (subst (IsRaised (length marks) s.octets 0 last) (sym (unchanged (leb-true next last test))) none_raised)
  by_test false next c test unchanged raised = raised (leb-false next last test)

  -- Whether the number was reserved or not, the reservation is the one that it asks for.
  pub reserved_after : (next : ℕ) (c : List ℕ) → (next ≤ last → c ≡ s.octets)
      → (last < next → IsRaised (length marks) s.octets 0 (reservation_for last next) c)
      → (l : ℕ) → value_of (length marks) s.octets 0 ≡ Some l → IsRaised (length marks) s.octets 0
      (reservation_for l next) c
  reserved_after next c unchanged raised l is =
      subst (λ l. IsRaised (length marks) s.octets 0 (reservation_for l next) c) (sym (last_is l is))
      (by_test (nat_le next last) next c refl unchanged raised)

-- Any call that makes the writes of a raise does what one does.
module _ {answer : Option NvmFault} {a b : State} {p q : ℕ → List ℕ → Type 0} (lanes v n : ℕ)
    (may : MayRaise lanes a.octets v n)
    (made : Makes (raise_writes lanes a.octets v n) answer a b p q) where
  laws : HasRaiseLaws lanes a.octets v n
  laws = raises_whole lanes v n a.octets may

  pub raises : Raises lanes v n answer a b p q
  raises = record {
    makes = made;
    any_moment = λ t image early since. elim (made.images t image early since)
        [ inl past ↦ inl past | inr reached ↦ inr (laws.torn image reached) ];
    now = laws.torn b.octets (makes_reached made);
    raised = λ done. subst (IsRaised lanes a.octets v n) (sym (whole done)) laws.whole;
    few = omega (arith, made.few, laws.few.at_most_three);
  } where
    whole : answer ≡ None → b.octets ≡ written (raise_writes lanes a.octets v n) a.octets
    whole done = subst (λ answer. Leaves (raise_writes lanes a.octets v n) answer a.octets b.octets) done made.octets
