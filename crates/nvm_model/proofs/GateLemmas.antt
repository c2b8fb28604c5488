-- Every image of a write behind a gate.
use Rattle.std.proofs.Common.{◌≡◌, ◌⊎◌, ℕ, ◌+◌, ◌<◌, ◌≤◌, Bool, true, false, List, [], ◌∷◌, length, slice_index, sym, ap, subst, ◌∙◌, inl, inr, arith, add-zero}
use Rattle.nvm_model.specs.Write.{FitsIn, put, written, Torn, TornBy, Reached}
use Rattle.nvm_model.specs.Gate.{is_open, shut_write, body_write, open_write, opening_writes, gated_writes, HasBody, IsOpenOver, IsGatedMoment}
use Rattle.std.specs.List.{All}
use Rattle.std.proofs.lemmas.List.Elements.{All-cons}
use Rattle.std.specs.Prelude.{◌==◌, Result, Ok, Err, OnOk, Option}
use Rattle.nvm_model.specs.Nvm.{State, LeavesOnly, Makes, fault_of}
use Rattle.nvm_model.specs.declared.fault.NvmFault.{NvmFault}
use Rattle.nvm_model.proofs.Lists.{put_inside, torn_put, torn_twice, torn_within}

-- a gate is open where one with the same octet is
pub same_gate : (a b : List ℕ) (gate : ℕ) → slice_index b gate ≡ slice_index a gate → is_open b gate ≡ is_open a gate
same_gate a b gate same = ap (λ octet. octet == 0xA5) same

module _ (gate : ℕ) (body : List ℕ) where
  -- a write behind the gate does not touch it
  torn_body : (b c : List ℕ) → TornBy (body_write gate body) b c → is_open b gate ≡ false → is_open c gate ≡ false
  torn_body b c torn shut = same_gate b c gate (torn.before gate (omega arith)) ∙ shut

  whole_body : (b : List ℕ) → gate + 1 + length body ≤ length b → HasBody gate body (put (body_write gate body) b)
  whole_body b inside = record { each = λ k h. put_inside (body_write gate body) b k inside h }

  -- a write of the gate does not touch what is behind it
  torn_gate : (b c : List ℕ) → Torn gate 1 b c → HasBody gate body b → HasBody gate body c
  torn_gate b c torn has = record { each = λ k h. torn.after (gate + 1 + k) (omega arith) ∙ has.each k h }

  -- from a gate that is shut
  opening_moment : (b c : List ℕ) → is_open b gate ≡ false → gate + 1 + length body ≤ length b
      → Reached (opening_writes gate body) b c
      → Torn gate (1 + length body) b c × ((is_open c gate ≡ false) ⊎ HasBody gate body c)
  opening_moment b c shut inside (inl torn) =
      (torn_within torn (omega arith) (omega arith), inl (torn_body b c torn shut))
  opening_moment b c shut inside (inr (inl torn)) =
      let first : Torn (gate + 1) (length body) b (put (body_write gate body) b) =
      torn_put (body_write gate body) b inside in (
        torn_twice first torn (omega arith) (omega arith) (omega arith) (omega arith),
        inr
            (torn_gate _ c torn (whole_body b inside)),
      )
  opening_moment b c shut inside (inr (inr is)) =
      let first : Torn (gate + 1) (length body) b (put (body_write gate body) b) =
      torn_put (body_write gate body) b inside in
      let then : Torn gate 1 (put (body_write gate body) b) (put (open_write gate) (put (body_write gate body) b)) =
      torn_put (open_write gate) (put (body_write gate body) b) (omega (arith, first.size)) in
      rw is (
        torn_twice first then (omega arith) (omega arith) (omega arith) (omega arith),
        inr
            (torn_gate _ _ then (whole_body b inside)),
      )

  opening_whole : (b : List ℕ) → gate + 1 + length body ≤ length b
      → IsOpenOver gate body (written (opening_writes gate body) b)
  opening_whole b inside =
      let first : Torn (gate + 1) (length body) b (put (body_write gate body) b) =
      torn_put (body_write gate body) b inside in
      let fits : gate + 1 ≤ length (put (body_write gate body) b) = omega (arith, first.size) in
      record {
        open_gate = ap (λ octet. octet == 0xA5) (rw add-zero at (put_inside (open_write gate)
            (put (body_write gate body) b) 0 fits (omega arith)));
        holds = torn_gate _ _ (torn_put (open_write gate) (put (body_write gate body) b) fits) (whole_body b inside);
      }

  -- shuts a gate that is open
  shut_whole : (a : List ℕ) → gate + 1 ≤ length a → is_open (put (shut_write gate) a) gate ≡ false
  shut_whole a inside =
      ap (λ octet. octet == 0xA5) (rw add-zero at (put_inside (shut_write gate) a 0 inside (omega arith)))

-- Each moment of a write behind a gate.
pub gated_moment : (gate : ℕ) (was_open : Bool) (body a c : List ℕ) → was_open ≡ is_open a gate
    → gate + 1 + length body ≤ length a
    → Reached (gated_writes gate was_open body) a c → IsGatedMoment gate body a c
gated_moment gate false body a c was inside reached =
    let moment = opening_moment gate body a c (sym was) inside reached in
    record { outside = moment.0; behind = elim moment.1 [ inl shut ↦ inl shut | inr has ↦ inr (inr has) ] }
gated_moment gate true body a c was inside (inl torn) = record {
  outside = torn_within torn (omega arith) (omega arith);
  behind = inr (inl (record { was_open = sym was; each = λ k h. torn.after (gate + 1 + k) (omega arith) }));
}
gated_moment gate true body a c was inside (inr later) =
    let shut : Torn gate 1 a (put (shut_write gate) a) = torn_put (shut_write gate) a (omega arith) in
    let moment = opening_moment gate body (put (shut_write gate) a) c (shut_whole gate body a (omega arith))
    (omega (arith, shut.size)) later in
    record {
      outside = torn_twice shut moment.0 (omega arith) (omega arith) (omega arith) (omega arith);
      behind = elim moment.1 [ inl shut ↦ inl shut | inr has ↦ inr (inr has) ];
    }

-- After all of its writes the gate is open over the body.
pub gated_whole : (gate : ℕ) (was_open : Bool) (body a : List ℕ) → gate + 1 + length body ≤ length a
    → IsOpenOver gate body (written (gated_writes gate was_open body) a)
gated_whole gate false body a inside = opening_whole gate body a inside
gated_whole gate true body a inside =
    let shut : Torn gate 1 a (put (shut_write gate) a) = torn_put (shut_write gate) a (omega arith) in
    opening_whole gate body (put (shut_write gate) a) (omega (arith, shut.size))

-- Each of its writes is inside the memory, and none is empty.
opening_fit : (gate size : ℕ) (body : List ℕ) → gate + 1 + length body ≤ size → 0 < length body
    → All (FitsIn size) (opening_writes gate body)
opening_fit gate size body inside some =
    All-cons (FitsIn size) (body_write gate body) (open_write gate ∷ []) (record { inside = inside; not_empty = some })
    (All-cons (FitsIn size) (open_write gate) [] (record { inside = omega arith; not_empty = omega arith })
    (λ k d h. absurd (omega (arith, h))))

pub gated_fit : (gate size : ℕ) (was_open : Bool) (body : List ℕ) → gate + 1 + length body ≤ size → 0 < length body
    → All (FitsIn size) (gated_writes gate was_open body)
gated_fit gate size true body inside some =
    All-cons (FitsIn size) (shut_write gate) (opening_writes gate body)
    (record { inside = omega arith; not_empty = omega arith })
    (opening_fit gate size body inside some)
gated_fit gate size false body inside some = opening_fit gate size body inside some

-- They are two or three.
pub gated_few : (gate : ℕ) (was_open : Bool) (body : List ℕ) → length (gated_writes gate was_open body) ≤ 3
gated_few gate true body = omega arith
gated_few gate false body = omega arith

-- Any call that makes the writes of a body behind a gate leaves only such images,
pub makes_gated : {answer : Option NvmFault} {a b : State} {p q : ℕ → List ℕ → Type 0} (gate : ℕ) (was_open : Bool)
    (body : List ℕ)
    → was_open ≡ is_open a.octets gate → gate + 1 + length body ≤ length a.octets
    → Makes (gated_writes gate was_open body) answer a b p q → LeavesOnly a.clock p q (IsGatedMoment gate body a.octets)
makes_gated {a = a} gate was_open body was inside made =
    λ t image early since. elim (made.images t image early since) [
      | inl past ↦ inl past
      | inr reached ↦ inr (gated_moment gate was_open body a.octets image was inside reached)
    ]

-- and leaves the gate open over the body where it is answered Ok.
pub opens_gated : {T : Type 0} {a b : State} {p q : ℕ → List ℕ → Type 0} (result : Result T NvmFault) (gate : ℕ)
    (was_open : Bool) (body : List ℕ)
    → gate + 1 + length body ≤ length a.octets
    → Makes (gated_writes gate was_open body) (fault_of result) a b p q → OnOk result (IsOpenOver gate body b.octets)
opens_gated {a = a} (Ok _) gate was_open body inside made =
    subst (IsOpenOver gate body) (sym made.octets) (gated_whole gate was_open body a.octets inside)
opens_gated (Err _) gate was_open body inside made = tt
