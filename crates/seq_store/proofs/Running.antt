-- Raises one after another.
use Rattle.std.proofs.Common.{◌≡◌, ℕ, true, List, [], ◌∷◌, ◌++◌, length, Option, None, Some, refl, sym, ap, subst, ◌∙◌, inl, inr, arith, append-nil, append_assoc}
use Rattle.std.proofs.lemmas.Grind.{common_steps}
use Rattle.nvm_model.specs.Nvm.{State, Makes}
use Rattle.nvm_model.specs.Write.{Write, written}
use Rattle.nvm_model.specs.declared.fault.NvmFault.{NvmFault}
use Rattle.nvm_model.proofs.Runs.{makes_goes_on, makes_stops}
use Rattle.nvm_model.proofs.Lists.{written-append}
use Rattle.seq_store.specs.Layout.{raise_writes}
use Rattle.seq_store.specs.Laws.{Raises}
use Rattle.seq_store.specs.Runs.{Numbers, RestoresNumbers, Raise, Reserve, Mark, value_raised, number_raised, after_raise, after_raises, writes_of, RestoresSome, Runs}
use Rattle.seq_store.proofs.Restored.{InRange, restores_raised, restores_some}

marks_kept : (r : Raise) (numbers : Numbers) → length (after_raise r numbers).marks ≡ length numbers.marks
marks_kept (Reserve n) numbers = refl
marks_kept (Mark lane n) numbers = grind (arith, common_steps)

pub same_lanes : (rs : List Raise) (numbers : Numbers) → length (after_raises rs numbers).marks ≡ length numbers.marks
same_lanes [] numbers = refl
same_lanes (r ∷ rs) numbers = same_lanes rs (after_raise r numbers) ∙ marks_kept r numbers

after_append : (xs ys : List Raise) (numbers : Numbers) → after_raises (xs ++ ys) numbers
    ≡ after_raises ys (after_raises xs numbers)
after_append [] ys numbers = refl
after_append (x ∷ xs) ys numbers = after_append xs ys (after_raise x numbers)

pub writes_append : (lanes : ℕ) (xs ys : List Raise) (octets : List ℕ)
    → writes_of lanes (xs ++ ys) octets ≡ writes_of lanes xs octets
    ++ writes_of lanes ys (written (writes_of lanes xs octets) octets)
writes_append lanes [] ys octets = refl
writes_append lanes (x ∷ xs) ys octets =
    let first : List Write = raise_writes lanes octets (value_raised x) (number_raised x) in
    let next : List ℕ = written first octets in
    ap (λ ws. first ++ ws) (writes_append lanes xs ys next)
    ∙ sym (append_assoc first (writes_of lanes xs next) (writes_of lanes ys (written (writes_of lanes xs next) next)))
    ∙ ap (λ o. (first ++ writes_of lanes xs next) ++ writes_of lanes ys o)
    (sym (written-append first (writes_of lanes xs next) octets))

pub some_now : (rs : List Raise) (numbers : Numbers) (image : List ℕ) → RestoresNumbers numbers image
    → RestoresSome rs numbers image
some_now [] numbers image restores = restores
some_now (r ∷ rs) numbers image restores = inl restores

some_front : (xs ys : List Raise) (numbers : Numbers) (image : List ℕ) → RestoresSome xs numbers image
    → RestoresSome (xs ++ ys) numbers image
some_front [] ys numbers image some = some_now ys numbers image some
some_front (x ∷ xs) ys numbers image (inl restores) = inl restores
some_front (x ∷ xs) ys numbers image (inr some) = inr (some_front xs ys (after_raise x numbers) image some)

some_back : (xs ys : List Raise) (numbers : Numbers) (image : List ℕ) → RestoresSome ys (after_raises xs numbers) image
    → RestoresSome (xs ++ ys) numbers image
some_back [] ys numbers image some = some
some_back (x ∷ xs) ys numbers image some = inr (some_back xs ys (after_raise x numbers) image some)

-- No raise, while power is on.
pub runs_none : {n : Numbers} {a : State} {p : ℕ → List ℕ → Type 0} → a.powered ≡ true → RestoresNumbers n a.octets
    → Runs n [] None a a p p
runs_none {n = n} {a = a} on restores = record {
  makes = record {
    cause = record {
      faults = omega arith;
      cuts = omega arith;
      kept = λ _. (refl, refl);
      failed = λ is. absurd cc;
      cut = λ is. absurd cc;
      off = λ off. absurd (cc (on, off));
      power = on;
    };
    later = omega arith;
    few = omega arith;
    size = refl;
    images = λ t image early since. inl since;
    octets = refl;
    off = λ _. refl;
    off_plan = λ _. refl;
    told = λ plan is _. record { answered = refl; octets = refl; plan = is };
  };
  any_moment = λ t image early since. inl since;
  now = restores;
  done = λ _. restores;
}

-- Raises after raises that were answered Ok.
pub runs_go_on : {n : Numbers} {xs ys : List Raise} {answer : Option NvmFault} {a b c : State}
    {p q r : ℕ → List ℕ → Type 0}
    → Runs n xs None a b p q → Runs (after_raises xs n) ys answer b c q r → Runs n (xs ++ ys) answer a c p r
runs_go_on {n = n} {xs = xs} {ys = ys} {answer = answer} {a = a} {b = b} {c = c} {p = p} {q = q} {r = r} first then =
    let whole : b.octets ≡ written (writes_of (length n.marks) xs a.octets) a.octets = first.makes.octets in
    let after : Makes (writes_of (length n.marks) ys b.octets) answer b c q r =
    subst (λ lanes. Makes (writes_of lanes ys b.octets) answer b c q r) (same_lanes xs n) then.makes in
    let behind : Makes (writes_of (length n.marks) ys (written (writes_of (length n.marks) xs a.octets) a.octets))
    answer b c q r =
    subst (λ o. Makes (writes_of (length n.marks) ys o) answer b c q r) whole after in
    record {
      makes = subst (λ ws. Makes ws answer a c p r) (sym (writes_append (length n.marks) xs ys a.octets))
          (makes_goes_on first.makes behind);
      any_moment =
          λ t image early since. elim (then.any_moment t image (omega (arith, early, first.makes.later)) since) [
            | inl past ↦ elim (first.any_moment t image early past) [
              | inl past ↦ inl past
              | inr some ↦ inr
                  (some_front xs ys n image some)
            ]
            | inr some ↦ inr (some_back xs ys n image some)
          ];
      now = some_back xs ys n c.octets then.now;
      done = λ ok. subst (λ m. RestoresNumbers m c.octets) (sym (after_append xs ys n)) (then.done ok);
    }

-- Raises of which one was not answered Ok: no later one is made.
pub runs_stop : {n : Numbers} {xs : List Raise} (ys : List Raise) {fault : NvmFault} {a b : State}
    {p q : ℕ → List ℕ → Type 0}
    → Runs n xs (Some fault) a b p q → Runs n (xs ++ ys) (Some fault) a b p q
runs_stop {n = n} {xs = xs} ys {fault = fault} {a = a} {b = b} {p = p} {q = q} first = record {
  makes = subst (λ ws. Makes ws (Some fault) a b p q) (sym (writes_append (length n.marks) xs ys a.octets))
      (makes_stops _ first.makes);
  any_moment = λ t image early since. elim (first.any_moment t image early since) [
    | inl past ↦ inl past
    | inr some ↦ inr (some_front xs ys n image some)
  ];
  now = some_front xs ys n b.octets first.now;
  done = λ ok. absurd cc;
}

-- One raise.
pub runs_one : {answer : Option NvmFault} {a b : State} {p q : ℕ → List ℕ → Type 0} (n : Numbers) (r : Raise)
    → InRange r n → RestoresNumbers n a.octets → Raises (length n.marks) (value_raised r) (number_raised r) answer a b p
    q
    → Runs n (r ∷ []) answer a b p q
runs_one {answer = answer} {a = a} {b = b} {p = p} {q = q} n r in_range restores raises = record {
  makes = subst (λ ws. Makes ws answer a b p q) (sym (append-nil
      (raise_writes (length n.marks) a.octets (value_raised r) (number_raised r)))) raises.makes;
  any_moment = λ t image early since. elim (raises.any_moment t image early since) [
    | inl past ↦ inl past
    | inr moment ↦ inr (restores_some r n a.octets image in_range restores moment)
  ];
  now = restores_some r n a.octets b.octets in_range restores raises.now;
  done = λ ok. restores_raised r n a.octets b.octets in_range restores (raises.raised ok);
}
