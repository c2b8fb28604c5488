-- No number is drawn twice in the life of a memory.
use Rattle.std.proofs.Common.{◌≡◌, ℕ, ◌+◌, ◌-◌, ◌^◌, ◌<◌, ◌≤◌, min, Bool, true, false, cond, List, [], ◌∷◌, length, Option, None, Some, refl, sym, ap, subst, ◌∙◌, inl, inr, arith}
use Rattle.std.specs.Prelude.{◌&&◌, nat_lt}
use Rattle.std.proofs.lemmas.Bool.Decides.{nat_tests}
use Rattle.nvm_model.specs.Write.{written, Reached}
use Rattle.seq_store.specs.Draws.{reservation_for}
use Rattle.seq_store.specs.Keeps.{KeepsNumbers}
use Rattle.seq_store.specs.Laws.{Ready}
use Rattle.seq_store.specs.Layout.{most_lanes}
use Rattle.seq_store.specs.Lives.{Running, started, Call, Draw, RaiseMark, RaiseNext, IsCall, call_raises, next_after, after_call, Event, Start, Made, Stopped, AreEvents, numbers_drawn, AscendFrom, NeverTwice}
use Rattle.seq_store.specs.Runs.{Numbers, RestoresNumbers, numbers_in, Raise, Reserve, Mark, IsAbove, AreAbove, after_raise, after_raises, writes_of, RestoresSome, draw_raises}
use Rattle.seq_store.proofs.Keeping.{keeps, has_its_numbers}
use Rattle.seq_store.proofs.Restored.{numbers_restored}
use Rattle.seq_store.proofs.Running.{same_lanes}
use Rattle.seq_store.proofs.Starts.{restores_ready}

-- what a draw does to the reservation
record DrawsWell (numbers : Numbers) (next : ℕ) : Type 0 where
  pub above : AreAbove (draw_raises numbers.reserved next) numbers
  pub covers : next ≤ (after_raises (draw_raises numbers.reserved next) numbers).reserved

draws_by : (numbers : Numbers) (next : ℕ) → next < 2 ^ 48 → (is_below : Bool) → nat_lt numbers.reserved next ≡ is_below
    → DrawsWell numbers next
draws_by numbers next fits true test =
    let below : numbers.reserved < next = grind (arith, nat_tests, test) in
    let raises : draw_raises numbers.reserved next ≡ Reserve (reservation_for numbers.reserved next) ∷ [] =
    grind (arith, nat_tests, test, fits) in
    let reserved : reservation_for numbers.reserved next ≡ min (next + 63) (2 ^ 48 - 1) =
    grind (arith, nat_tests, below) in
    record {
      above = subst (λ rs. AreAbove rs numbers) (sym raises) (
        (omega (arith, reserved, below), omega (arith, reserved)),
        tt,
      );
      covers = subst (λ rs. next ≤ (after_raises rs numbers).reserved) (sym raises) (omega (arith, reserved, fits));
    }
draws_by numbers next fits false test =
    let reserved : next ≤ numbers.reserved = grind (arith, nat_tests, test) in
    let raises : draw_raises numbers.reserved next ≡ [] =
    ap (λ t. cond (t && nat_lt next (2 ^ 48)) (Reserve (reservation_for numbers.reserved next) ∷ []) []) test in
    record {
      above = subst (λ rs. AreAbove rs numbers) (sym raises) tt;
      covers = subst (λ rs. next ≤ (after_raises rs numbers).reserved) (sym raises) reserved;
    }

-- each call raises upwards, and the reservation does not fall
call_above : (call : Call) (s : Running) → IsCall call s → AreAbove (call_raises call s) s.numbers
call_above (Draw number) s is =
    (draws_by s.numbers s.next (omega (arith, is.0, is.1)) (nat_lt s.numbers.reserved s.next) refl).above
call_above (RaiseMark lane number) s is = (is, tt)
call_above (RaiseNext above) s is = tt

reserved_up_one : (r : Raise) (numbers : Numbers) → IsAbove r numbers
    → numbers.reserved ≤ (after_raise r numbers).reserved
reserved_up_one (Reserve n) numbers above = omega (arith, above.0)
reserved_up_one (Mark lane n) numbers above = omega arith

reserved_up : (rs : List Raise) (numbers : Numbers) → AreAbove rs numbers
    → numbers.reserved ≤ (after_raises rs numbers).reserved
reserved_up [] numbers above = omega arith
reserved_up (r ∷ rs) numbers above =
    omega (arith, reserved_up_one r numbers above.0, reserved_up rs (after_raise r numbers) above.1)

-- what is left by a stop
record IsLeft (lanes : ℕ) (octets : List ℕ) (least : ℕ) : Type 0 where
  pub ready : Ready lanes octets
  pub reserved : least ≤ (numbers_in lanes octets).reserved + 1

left_by : (lanes : ℕ) (numbers : Numbers) (octets : List ℕ) (least : ℕ) → length numbers.marks ≡ lanes
    → RestoresNumbers numbers octets
    → least ≤ numbers.reserved + 1 → IsLeft lanes octets least
left_by lanes numbers octets least same restores low = subst (λ lanes. IsLeft lanes octets least) same (record {
  ready = restores_ready octets numbers.reserved numbers.marks restores;
  reserved = omega (arith, low, ap (λ (n : Numbers). n.reserved) (numbers_restored numbers octets restores));
})

left_some : (rs : List Raise) (lanes : ℕ) (numbers : Numbers) (octets : List ℕ) (least : ℕ)
    → length numbers.marks ≡ lanes → AreAbove rs numbers
    → RestoresSome rs numbers octets → least ≤ numbers.reserved + 1 → IsLeft lanes octets least
left_some [] lanes numbers octets least same above restores low = left_by lanes numbers octets least same restores low
left_some (r ∷ rs) lanes numbers octets least same above (inl restores) low =
    left_by lanes numbers octets least same restores low
left_some (r ∷ rs) lanes numbers octets least same above (inr some) low =
    left_some rs lanes (after_raise r numbers) octets least (same_lanes (r ∷ []) numbers ∙ same) above.1 some
    (omega (arith, low, reserved_up_one r numbers above.0))

-- a store that runs over octets, of whose numbers all below this one may have been drawn
record IsRunning (lanes : ℕ) (octets : List ℕ) (s : Running) (least : ℕ) : Type 0 where
  pub same : length s.numbers.marks ≡ lanes
  pub restores : RestoresNumbers s.numbers octets
  pub next : least ≤ s.next
  pub reserved : least ≤ s.numbers.reserved + 1

abbrev Keeps : ℕ → List ℕ → Option Running → ℕ → Type 0
Keeps lanes octets None least = IsLeft lanes octets least
Keeps lanes octets (Some s) least = IsRunning lanes octets s least

-- a start over what is left
starts : (lanes : ℕ) (octets : List ℕ) (least : ℕ) → IsLeft lanes octets least
    → IsRunning lanes octets (started (numbers_in lanes octets)) least
starts lanes octets least left = record {
  same = (has_its_numbers octets).lanes lanes;
  restores = (has_its_numbers octets).ready lanes left.ready;
  next = left.reserved;
  reserved = left.reserved;
}

leaves : (lanes : ℕ) (octets : List ℕ) (store : Option Running) (least : ℕ) → Keeps lanes octets store least
    → IsLeft lanes octets least
leaves lanes octets None least kept = kept
leaves lanes octets (Some s) least kept = left_by lanes s.numbers octets least kept.same kept.restores kept.reserved

module _ (lanes : ℕ) (octets : List ℕ) (s : Running) (least : ℕ) (lanes_fit : lanes ≤ most_lanes)
    (kept : IsRunning lanes octets s least)
    (call : Call) (is : IsCall call s) where
  laws : KeepsNumbers s.numbers (call_raises call s) octets
  laws = keeps s.numbers (call_raises call s) octets (record {
    lanes_fit = omega (arith, lanes_fit, kept.same);
    restores = kept.restores;
    above = call_above call s is;
  })

  whole : RestoresNumbers (after_call call s).numbers (written (writes_of lanes (call_raises call s) octets) octets)
  whole = subst (λ lanes. RestoresNumbers (after_call call s).numbers
      (written (writes_of lanes (call_raises call s) octets) octets)) kept.same laws.whole

  stops : (image : List ℕ) → Reached (writes_of lanes (call_raises call s) octets) octets image
      → IsLeft lanes image least
  stops image reached =
      left_some (call_raises call s) lanes s.numbers image least kept.same (call_above call s is)
      (laws.torn image (subst (λ lanes. Reached (writes_of lanes (call_raises call s) octets) octets image)
      (sym kept.same) reached)) kept.reserved

  makes : (most : ℕ) → most ≤ next_after call s.next → most ≤ (after_call call s).numbers.reserved + 1
      → IsRunning lanes (written (writes_of lanes (call_raises call s) octets) octets) (after_call call s) most
  makes most next reserved = record {
    same = same_lanes (call_raises call s) s.numbers ∙ kept.same;
    restores = whole;
    next = next;
    reserved = reserved;
  }

ascends : (events : List Event) (lanes : ℕ) (octets : List ℕ) (store : Option Running) (least : ℕ) → lanes ≤ most_lanes
    → Keeps lanes octets store least
    → AreEvents lanes octets store events → AscendFrom least (numbers_drawn events)
ascends [] lanes octets store least lanes_fit kept are = tt
ascends (Start ∷ events) lanes octets store least lanes_fit kept are =
    ascends events lanes octets (Some (started (numbers_in lanes octets))) least lanes_fit
    (starts lanes octets least (leaves lanes octets store least kept)) are
ascends (Made call ∷ events) lanes octets None least lanes_fit kept are = absurd are
ascends (Stopped call image ∷ events) lanes octets None least lanes_fit kept are = absurd are
ascends (Made (Draw number) ∷ events) lanes octets (Some s) least lanes_fit kept are =
    let well : DrawsWell s.numbers s.next =
    draws_by s.numbers s.next (omega (arith, are.0.0, are.0.1)) (nat_lt s.numbers.reserved s.next) refl in (
      omega (arith, kept.next, are.0.0),
      ascends events lanes _ _ (number + 1) lanes_fit
          (makes lanes octets s least lanes_fit kept (Draw number) are.0 (number + 1) (omega (arith, are.0.0))
          (omega (arith, are.0.0, well.covers))) are.1,
    )
ascends (Made (RaiseMark lane number) ∷ events) lanes octets (Some s) least lanes_fit kept are =
    ascends events lanes _ _ least lanes_fit
    (makes lanes octets s least lanes_fit kept (RaiseMark lane number) are.0 least kept.next kept.reserved) are.1
ascends (Made (RaiseNext above) ∷ events) lanes octets (Some s) least lanes_fit kept are =
    ascends events lanes _ _ least lanes_fit
    (makes lanes octets s least lanes_fit kept (RaiseNext above) are.0 least (omega (arith, kept.next)) kept.reserved)
    are.1
ascends (Stopped call image ∷ events) lanes octets (Some s) least lanes_fit kept are =
    ascends events lanes image None least lanes_fit (stops lanes octets s least lanes_fit kept call are.0 image are.1)
    are.2

pub never_twice : (lanes : ℕ) (octets : List ℕ) (events : List Event) → NeverTwice lanes octets events
never_twice lanes octets events life =
    ascends events lanes octets None ((numbers_in lanes octets).reserved + 1) life.lanes_fit
    (record { ready = life.ready; reserved = omega arith }) life.each
