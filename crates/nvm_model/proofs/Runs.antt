-- Calls one after another: reads and writes of one memory.
use Rattle.std.proofs.Common.{◌≡◌, ℕ, true, List, ◌∷◌, ◌++◌, length, Option, None, Some, refl, sym, ap, subst, ◌∙◌, inl, inr, arith, length-append}
use Rattle.nvm_model.specs.Write.{Write, written, Torn, Reached, PartWritten}
use Rattle.std.specs.Prelude.{Result, Ok, Err, IsOk}
use Rattle.nvm_model.specs.Plan.{Struck, strike, unarmed}
use Rattle.nvm_model.specs.Nvm.{State, HasNvmCause, Leaves, Reads, Makes, IsStruck, fault_of}
use Rattle.nvm_model.specs.declared.fault.NvmFault.{NvmFault}
use Rattle.nvm_model.specs.declared.plan.Plan.{Plan}
use Rattle.nvm_model.proofs.Lists.{written-append, reached_front, reached_back, reached_whole, reached_part, part_front, part_back, strike-append, and_then_whole, and_then_stopped, torn_same, strike_unarmed}

-- after a call that was answered Ok
cause_goes_on : {answer : Option NvmFault} {a b c : State} → HasNvmCause None a b → HasNvmCause answer b c
    → HasNvmCause answer a c
cause_goes_on first then = record {
  faults = omega arith;
  cuts = omega arith;
  kept = λ is. let now = then.kept is in let before = first.kept refl in (now.0 ∙ before.0, now.1 ∙ before.1);
  failed = λ is. omega (arith, then.failed is);
  cut = λ is. elim (then.cut is) [ inl rose ↦ inl (omega arith) | inr off ↦ absurd cc ];
  off = λ off. absurd (cc (first.off off));
  power = then.power;
}

leaves_goes_on : (xs ys : List Write) (answer : Option NvmFault) (a b c : List ℕ) → b ≡ written xs a
    → Leaves ys answer b c → Leaves (xs ++ ys) answer a c
leaves_goes_on xs ys None a b c whole leaves = leaves ∙ ap (written ys) whole ∙ sym (written-append xs ys a)
leaves_goes_on xs ys (Some _) a b c whole part = part_back xs ys a c (subst (λ o. PartWritten ys o c) whole part)

struck_goes_on : {answer : Option NvmFault} {c : State} (xs ys : List Write) (plan : Plan) (a b : State)
    → IsStruck (strike xs plan a.octets) None b → IsStruck (strike ys (strike xs plan a.octets).plan b.octets) answer c
    → IsStruck (strike (xs ++ ys) plan a.octets) answer c
struck_goes_on xs ys plan a b first then =
    let s : Struck = strike xs plan a.octets in
    let same : strike (xs ++ ys) plan a.octets ≡ strike ys s.plan b.octets =
    strike-append xs ys plan a.octets ∙ and_then_whole s.answer s.octets s.plan (strike ys) first.answered
    ∙ ap (strike ys s.plan) (sym first.octets) in
    record {
      answered = then.answered ∙ ap (λ (s : Struck). s.answer) (sym same);
      octets = then.octets ∙ ap (λ (s : Struck). s.octets) (sym same);
      plan = then.plan ∙ ap (λ (s : Struck). Some s.plan) (sym same);
    }

struck_stops : {b : State} (xs ys : List Write) (plan : Plan) (a : State) (fault : NvmFault)
    → IsStruck (strike xs plan a.octets) (Some fault) b → IsStruck (strike (xs ++ ys) plan a.octets) (Some fault) b
struck_stops xs ys plan a fault first =
    let s : Struck = strike xs plan a.octets in
    let same : strike (xs ++ ys) plan a.octets ≡ s =
    strike-append xs ys plan a.octets ∙ and_then_stopped s.answer s.octets s.plan (strike ys) fault first.answered in
    record {
      answered = first.answered ∙ ap (λ (s : Struck). s.answer) (sym same);
      octets = first.octets ∙ ap (λ (s : Struck). s.octets) (sym same);
      plan = first.plan ∙ ap (λ (s : Struck). Some s.plan) (sym same);
    }

-- Writes after writes that were answered Ok.
pub makes_goes_on : {xs ys : List Write} {answer : Option NvmFault} {a b c : State} {p q r : ℕ → List ℕ → Type 0}
    → Makes xs None a b p q → Makes ys answer b c q r → Makes (xs ++ ys) answer a c p r
makes_goes_on {xs = xs} {ys = ys} {answer = answer} {a = a} {b = b} {c = c} first then = record {
  cause = cause_goes_on first.cause then.cause;
  later = omega (arith, first.later, then.later);
  few = omega (arith, first.few, then.few, length-append xs ys);
  size = then.size ∙ first.size;
  images = λ t image early since. elim (then.images t image (omega (arith, first.later)) since) [
    | inl past ↦ elim (first.images t image early past) [
      | inl past ↦ inl past
      | inr reached ↦ inr (reached_front xs ys a.octets image reached)
    ]
    | inr reached ↦ inr (reached_back xs ys a.octets image (subst (λ o. Reached ys o image) first.octets reached))
  ];
  octets = leaves_goes_on xs ys answer a.octets b.octets c.octets first.octets then.octets;
  off = λ off. absurd (cc (first.cause.off off));
  off_plan = λ off. absurd (cc (first.cause.off off));
  told = λ plan is on. let s = first.told plan is on in
      struck_goes_on xs ys plan a b s (then.told (strike xs plan a.octets).plan s.plan first.cause.power);
}

-- Writes of which one was not answered Ok: no later one is made.
pub makes_stops : {xs : List Write} (ys : List Write) {fault : NvmFault} {a b : State} {p q : ℕ → List ℕ → Type 0}
    → Makes xs (Some fault) a b p q → Makes (xs ++ ys) (Some fault) a b p q
makes_stops {xs = xs} ys {fault = fault} {a = a} {b = b} first = record {
  cause = first.cause;
  later = first.later;
  few = omega (arith, first.few, length-append xs ys);
  size = first.size;
  images = λ t image early since. elim (first.images t image early since) [
    | inl past ↦ inl past
    | inr reached ↦ inr (reached_front xs ys a.octets image reached)
  ];
  octets = part_front xs ys a.octets b.octets first.octets;
  off = first.off;
  off_plan = first.off_plan;
  told = λ plan is on. struck_stops xs ys plan a fault (first.told plan is on);
}

-- Reads after reads that were answered Ok.
pub reads_go_on : {answer : Option NvmFault} {a b c : State} {p q r : ℕ → List ℕ → Type 0}
    → Reads None a b p q → Reads answer b c q r → Reads answer a c p r
reads_go_on first then = record {
  cause = cause_goes_on first.cause then.cause;
  octets = then.octets ∙ first.octets;
  clock = then.clock ∙ first.clock;
  plan = then.plan ∙ first.plan;
  images = λ t image early.
      let one = first.images t image early in
      let two = then.images t image (omega (arith, first.clock)) in
      (λ since. one.0 (two.0 since), λ past. two.1 (one.1 past));
  never_fails_where_told = λ told on. then.never_fails_where_told (rw first.plan told) first.cause.power;
}

-- Writes after reads that were answered Ok.
pub makes_after_read : {writes : List Write} {answer : Option NvmFault} {a b c : State} {p q r : ℕ → List ℕ → Type 0}
    → Reads None a b p q → Makes writes answer b c q r → Makes writes answer a c p r
makes_after_read {writes = writes} {answer = answer} {a = a} {b = b} {c = c} first then = record {
  cause = cause_goes_on first.cause then.cause;
  later = omega (arith, first.clock, then.later);
  few = omega (arith, first.clock, then.few);
  size = then.size ∙ ap length first.octets;
  images = λ t image early since. elim (then.images t image (omega (arith, first.clock)) since) [
    | inl past ↦ inl ((first.images t image early).0 past)
    | inr reached ↦ inr (subst (λ o. Reached writes o image) first.octets reached)
  ];
  octets = subst (λ o. Leaves writes answer o c.octets) first.octets then.octets;
  off = λ off. absurd (cc (first.cause.off off));
  off_plan = λ off. absurd (cc (first.cause.off off));
  told = λ plan is on.
      subst (λ o. IsStruck (strike writes plan o) answer c) first.octets
      (then.told plan (first.plan ∙ is) first.cause.power);
}

-- A read that was not answered Ok: no write is made.
pub makes_not_read : (w : Write) (writes : List Write) {fault : NvmFault} {a b : State} {p q : ℕ → List ℕ → Type 0}
    → Reads (Some fault) a b p q → Makes (w ∷ writes) (Some fault) a b p q
makes_not_read w writes {fault = fault} {a = a} {b = b} {p = p} {q = q} read = record {
  cause = read.cause;
  later = omega (arith, read.clock);
  few = omega (arith, read.clock);
  size = ap length read.octets;
  images = λ t image early since. inl ((read.images t image early).0 since);
  octets = inl (subst (λ o. Torn w.at (length w.bytes) a.octets o) (sym read.octets) (torn_same _ _ a.octets));
  off = λ _. read.octets;
  off_plan = λ _. read.plan;
  told = λ plan is on. absurd (cc (read.never_fails_where_told (rw is refl) on));
}

ok_of : {T : Type 0} (result : Result T NvmFault) → fault_of result ≡ None → IsOk result
ok_of (Ok _) is = refl
ok_of (Err _) is = absurd cc

-- Where the memory tells that nothing is armed, and power is on, nothing strikes.
pub makes_unarmed : {T : Type 0} {writes : List Write} {a b : State} {p q : ℕ → List ℕ → Type 0}
    (result : Result T NvmFault)
    → Makes writes (fault_of result) a b p q → a.plan ≡ Some unarmed → a.powered ≡ true → IsOk result
    × (b.plan ≡ Some unarmed)
makes_unarmed {writes = writes} {a = a} result made is on =
    let struck = made.told unarmed is on in
    let same = strike_unarmed writes a.octets in (
      ok_of result (struck.answered ∙ ap (λ (s : Struck). s.answer) same),
      struck.plan
          ∙ ap (λ (s : Struck). Some s.plan) same,
    )

reached_leaves : (writes : List Write) (answer : Option NvmFault) (a b : List ℕ) → Leaves writes answer a b
    → Reached writes a b
reached_leaves writes None a b whole = subst (Reached writes a) (sym whole) (reached_whole writes a)
reached_leaves writes (Some _) a b part = reached_part writes a b part

-- What is there after the writes, whatever they were answered, is one of their moments.
pub makes_reached : {writes : List Write} {answer : Option NvmFault} {a b : State} {p q : ℕ → List ℕ → Type 0}
    → Makes writes answer a b p q → Reached writes a.octets b.octets
makes_reached {writes = writes} {answer = answer} {a = a} {b = b} made =
    reached_leaves writes answer a.octets b.octets made.octets
