-- What a raise leaves in a cell, at each moment and at its end, and what leaves a cell alone.
use Rattle.std.proofs.Common.{◌≡◌, ◌⊎◌, ℕ, ◌+◌, ◌^◌, ◌<◌, ◌≤◌, Bool, true, false, List, [], ◌∷◌, ◌++◌, length, length-append, Option, None, Some, refl, sym, ap, subst, ◌∙◌, inl, inr, arith, zero-add, add_assoc}
use Rattle.std.specs.Prelude.{slice_index, slice_range, replicate, Result, Ok, Err, OnOk}
use Rattle.std.specs.List.{All}
use Rattle.knx_base.specs.Number.{number_at, octets_of}
use Rattle.knx_base.proofs.NumberLemmas.{length-octets_of, number_at-octets_of, number_at_same}
use Rattle.nvm_model.specs.Gate.{is_open, gated_writes, HasBody, IsOpenOver, IsGatedMoment}
use Rattle.nvm_model.specs.Nvm.{State, LeavesOnly, Reads, Makes, fault_of}
use Rattle.nvm_model.specs.Write.{Write, FitsIn, put, Torn, Reached, written}
use Rattle.nvm_model.specs.declared.fault.NvmFault.{NvmFault}
use Rattle.nvm_model.proofs.GateLemmas.{gated_moment, gated_whole, gated_fit, gated_few}
use Rattle.nvm_model.proofs.Lists.{torn_within, torn_put, reached_whole, put_inside}
use Rattle.nvm_model.proofs.Runs.{makes_after_read, makes_not_read, makes_reached}
use Rattle.mark_cells.specs.Cell.{copy_number, greatest, reading, other_copy, cell_writes, formatted, format_writes, ReadsBelow, IsOldOrNew, OthersReadAsBefore}
use Rattle.mark_cells.proofs.Copies.{greatest-comm, beside, copy_open, copy_shut, copy_same, copied_from, reading_same, other_same, open_same}

-- A cell whose octets are as they were reads as it did.
pub reading_kept : (a b : List ℕ) (at : ℕ) → ((k : ℕ) → k < 14 → slice_index b (at + k) ≡ slice_index a (at + k))
    → reading b at ≡ reading a at
unfolding reading
reading_kept a b at same =
    let first : copy_number b at ≡ copy_number a at = copy_same b a at at (λ k h. same k (omega arith)) in
    let second : copy_number b (at + 7) ≡ copy_number a (at + 7) =
    copy_same b a (at + 7) (at + 7) (λ k h. simp add_assoc (same (7 + k) (omega arith))) in
    ap (λ x. greatest x (copy_number b (at + 7))) first ∙ ap (greatest (copy_number a at)) second

-- What is torn outside a cell leaves its reading alone.
pub reading_outside : {from n : ℕ} {a b : List ℕ} (at : ℕ) → Torn from n a b → (from + n ≤ at) ⊎ (at + 14 ≤ from)
    → reading b at ≡ reading a at
reading_outside {a = a} {b = b} at torn (inl behind) = reading_kept a b at (λ k h. torn.after (at + k) (omega arith))
reading_outside {a = a} {b = b} at torn (inr before) = reading_kept a b at (λ k h. torn.before (at + k) (omega arith))

-- a number that its six octets write is below 2^48
below_of : (n : ℕ) → number_at (octets_of n) 0 ≡ n → n < 2 ^ 48
unfolding number_at octets_of
below_of n back = omega arith

pub fits_octets : (n : ℕ) (octets : List ℕ) → octets ≡ octets_of n → number_at octets 0 ≡ n → n < 2 ^ 48
fits_octets n octets is back = below_of n (ap (λ o. number_at o 0) (sym is) ∙ back)

-- What is torn inside a cell leaves all others alone.
pub others_read : {a b : List ℕ} (at : ℕ) → Torn at 14 a b → OthersReadAsBefore a at b
others_read at torn other apart = elim apart [
  | inl before ↦ reading_outside other torn (inr before)
  | inr behind ↦ reading_outside other torn (inl behind)
]

-- the number behind a gate
number_behind : (n gate : ℕ) (c : List ℕ) → n < 2 ^ 48 → HasBody gate (octets_of n) c → number_at c (gate + 1) ≡ n
number_behind n gate c fits has =
    number_at_same c (octets_of n) (gate + 1) 0 (λ k h. simp zero-add (has.each k (omega (arith, length-octets_of n))))
    ∙ number_at-octets_of n fits

-- the copy that a raise writes, at each moment: shut, as before, or new
written_copy : (n gate : ℕ) (a c : List ℕ) → n < 2 ^ 48 → IsGatedMoment gate (octets_of n) a c → (gate_open : Bool)
    → is_open c gate ≡ gate_open
    → (copy_number c gate ≡ None) ⊎ ((copy_number c gate ≡ copy_number a gate) ⊎ (copy_number c gate ≡ Some n))
written_copy n gate a c fits moment false shut = inl (copy_shut c gate shut)
written_copy n gate a c fits moment true opened = elim moment.behind [
  | inl shut ↦ absurd (cc (opened, shut))
  | inr rest ↦ elim rest [
    | inl kept ↦ inr (inl (copy_open c gate opened
        ∙ ap Some (number_at_same c a (gate + 1) (gate + 1) (λ k h. kept.each k (omega (arith, length-octets_of n))))
        ∙ sym (copy_open a gate kept.was_open)))
    | inr has ↦ inr (inr (copy_open c gate opened ∙ ap Some (number_behind n gate c fits has)))
  ]
]

-- the copy that a raise does not write
kept_copy : (n gate other : ℕ) (a c : List ℕ) → IsGatedMoment gate (octets_of n) a c → (other + 7 ≤ gate)
    ⊎ (gate + 7 ≤ other)
    → copy_number c other ≡ copy_number a other
kept_copy n gate other a c moment (inl before) =
    copy_same c a other other (λ k h. moment.outside.before (other + k) (omega arith))
kept_copy n gate other a c moment (inr behind) =
    copy_same c a other other (λ k h. moment.outside.after (other + k) (omega (arith, length-octets_of n)))

-- the greatest of the two, of which the second is the one that is current
greatest_of : (x x' y : Option ℕ) (v n : ℕ) → y ≡ Some v → v < n → greatest x' y ≡ y → (x ≡ None)
    ⊎ ((x ≡ x') ⊎ (x ≡ Some n))
    → (greatest x y ≡ y) ⊎ (greatest x y ≡ Some n)
greatest_of x x' y v n is below current (inl none) = inl (ap (λ o. greatest o y) none)
greatest_of x x' y v n is below current (inr (inl same)) = inl (ap (λ o. greatest o y) same ∙ current)
greatest_of x x' y v n is below current (inr (inr new)) =
    inr (ap (λ o. greatest o y) new ∙ ap (greatest (Some n)) is ∙ ap Some (omega arith))

-- the greatest of two is that of the cell
abbrev AreCopies : ℕ → ℕ → ℕ → Type 0
AreCopies at p q = (image : List ℕ) → reading image at ≡ greatest (copy_number image p) (copy_number image q)

in_order : (at : ℕ) → AreCopies at at (at + 7)
unfolding reading
in_order at image = refl

in_turn : (at : ℕ) → AreCopies at (at + 7) at
unfolding reading
in_turn at image = greatest-comm (copy_number image at) (copy_number image (at + 7))

-- the copy that a raise of the cell writes, and the current one
record IsRaisedAt (a : List ℕ) (at p q : ℕ) : Type 0 where
  written : other_copy a at ≡ p
  copies : AreCopies at p q
  current : greatest (copy_number a p) (copy_number a q) ≡ copy_number a q
  apart : (q + 7 ≤ p) ⊎ (p + 7 ≤ q)
  low : at ≤ p
  high : p + 7 ≤ at + 14

raised_at : (a : List ℕ) (at : ℕ) → (p : ℕ) × (q : ℕ) × IsRaisedAt a at p q
unfolding other_copy
raised_at a at = elim (beside (copy_number a at) (copy_number a (at + 7)) at) [
  | inl first ↦ (
    at,
    at + 7,
    record {
      written = first.0;
      copies = in_order at;
      current = first.1;
      apart = inr (omega arith);
      low = omega arith;
      high = omega arith;
    },
  )
  | inr second ↦ (
    at + 7,
    at,
    record {
      written = second.0;
      copies = in_turn at;
      current = greatest-comm (copy_number a (at + 7)) (copy_number a at) ∙ second.1;
      apart = inl (omega arith);
      low = omega arith;
      high = omega arith;
    },
  )
]

module _ (a c : List ℕ) (at n p q : ℕ) (cell : IsRaisedAt a at p q) (below : ReadsBelow a at n) (fits : n < 2 ^ 48)
    (moment : IsGatedMoment p (octets_of n) a c) where
  current_reads : copy_number a q ≡ Some below.value
  current_reads = sym (cell.copies a ∙ cell.current) ∙ below.reads

  now_reads : reading c at ≡ greatest (copy_number c p) (copy_number a q)
  now_reads = cell.copies c ∙ ap (greatest (copy_number c p)) (kept_copy n p q a c moment cell.apart)

  moment_of : IsOldOrNew a at n c
  moment_of = record {
    outside = torn_within moment.outside cell.low (omega (arith, cell.high, length-octets_of n));
    reads = elim (greatest_of (copy_number c p) (copy_number a p) (copy_number a q) below.value n current_reads
        below.below cell.current
        (written_copy n p a c fits moment (is_open c p) refl)) [
          | inl old ↦ inl (now_reads ∙ old ∙ sym (cell.copies a ∙ cell.current))
          | inr new ↦ inr (now_reads ∙ new)
        ];
  }

  raised_reads : IsOpenOver p (octets_of n) c → reading c at ≡ Some n
  raised_reads opened =
      let less : below.value < n = below.below in
      now_reads ∙ ap (greatest (copy_number c p)) current_reads
      ∙ ap (λ o. greatest o (Some below.value)) (copy_open c p opened.open_gate
      ∙ ap Some (number_behind n p c fits opened.holds))
      ∙ ap Some (omega (arith, less))

module _ (a : List ℕ) (at n : ℕ) (inside : at + 14 ≤ length a) where
  fits_behind : (p : ℕ) → p + 7 ≤ at + 14 → p + 1 + length (octets_of n) ≤ length a
  fits_behind p high = omega (arith, length-octets_of n)

  -- A moment of a raise: the old number or the new, and nothing outside the cell.
  pub raise_moment : ReadsBelow a at n → n < 2 ^ 48 → (c : List ℕ) → Reached (cell_writes a at n) a c
      → IsOldOrNew a at n c
  unfolding cell_writes
  raise_moment below fits c reached =
      let (p, q, cell) = raised_at a at in
      let there : Reached (gated_writes p (is_open a p) (octets_of n)) a c =
      subst (λ p. Reached (gated_writes p (is_open a p) (octets_of n)) a c) cell.written reached in
      moment_of a c at n p q cell below fits (gated_moment p (is_open a p) (octets_of n) a c refl
      (fits_behind p cell.high) there)

  -- After a whole raise the cell reads the new number.
  pub raise_whole : ReadsBelow a at n → n < 2 ^ 48 → reading (written (cell_writes a at n) a) at ≡ Some n
  unfolding cell_writes
  raise_whole below fits =
      let (p, q, cell) = raised_at a at in
      let all = written (gated_writes p (is_open a p) (octets_of n)) a in
      let moment = gated_moment p (is_open a p) (octets_of n) a all refl (fits_behind p cell.high)
      (reached_whole (gated_writes p (is_open a p) (octets_of n)) a) in
      subst (λ p. reading (written (gated_writes p (is_open a p) (octets_of n)) a) at ≡ Some n) (sym cell.written)
      (raised_reads a all at n p q cell below fits moment (gated_whole p (is_open a p) (octets_of n) a
      (fits_behind p cell.high)))

-- A raise is two writes or three.
pub cell_writes_few : (a : List ℕ) (at n : ℕ) → length (cell_writes a at n) ≤ 3
unfolding cell_writes
cell_writes_few a at n = gated_few (other_copy a at) (is_open a (other_copy a at)) (octets_of n)

-- Each of them is inside the cell, and none is empty.
pub cell_writes_fit : (a : List ℕ) (at n size : ℕ) → at + 14 ≤ size → All (FitsIn size) (cell_writes a at n)
unfolding cell_writes
cell_writes_fit a at n size inside =
    let (p, q, cell) = raised_at a at in
    let high : other_copy a at + 7 ≤ at + 14 = omega (arith, cell.written, cell.high) in
    gated_fit (other_copy a at) size (is_open a (other_copy a at)) (octets_of n)
    (omega (arith, high, length-octets_of n)) (omega (arith, length-octets_of n))

-- Any call that makes the writes of a raise leaves only such images,
pub makes_moments : {answer : Option NvmFault} {a b : State} {p q : ℕ → List ℕ → Type 0} (at n : ℕ)
    → at + 14 ≤ length a.octets → ReadsBelow a.octets at n → n < 2 ^ 48
    → Makes (cell_writes a.octets at n) answer a b p q → LeavesOnly a.clock p q (IsOldOrNew a.octets at n)
makes_moments {a = a} at n inside below fits made =
    λ t image early since. elim (made.images t image early since) [
      | inl past ↦ inl past
      | inr reached ↦ inr (raise_moment a.octets at n inside below fits image reached)
    ]

-- leaves one of them, whatever it is answered,
pub makes_now : {answer : Option NvmFault} {a b : State} {p q : ℕ → List ℕ → Type 0} (at n : ℕ)
    → at + 14 ≤ length a.octets → ReadsBelow a.octets at n → n < 2 ^ 48
    → Makes (cell_writes a.octets at n) answer a b p q → IsOldOrNew a.octets at n b.octets
makes_now {a = a} {b = b} at n inside below fits made =
    raise_moment a.octets at n inside below fits b.octets (makes_reached made)

-- and leaves the new number where it is answered Ok.
pub makes_raised : {T : Type 0} {a b : State} {p q : ℕ → List ℕ → Type 0} (result : Result T NvmFault) (at n : ℕ)
    → at + 14 ≤ length a.octets → ReadsBelow a.octets at n → n < 2 ^ 48
    → Makes (cell_writes a.octets at n) (fault_of result) a b p q → OnOk result (reading b.octets at ≡ Some n)
makes_raised {a = a} (Ok _) at n inside below fits made =
    ap (λ o. reading o at) made.octets ∙ raise_whole a.octets at n inside below fits
makes_raised (Err _) at n inside below fits made = tt

-- a call that reads the cell and then makes the writes that its octets ask for makes those of a raise
pub makes_raise : {answer : Option NvmFault} {a m b : State} {p q r : ℕ → List ℕ → Type 0} (cell body : List ℕ)
    (at other n : ℕ)
    → at + 14 ≤ length a.octets → cell ≡ slice_range a.octets at (at + 14) → other ≡ other_copy cell 0 → other < 14
    → body ≡ octets_of n
    → Reads None a m p q → Makes (gated_writes (at + other) (is_open cell other) body) answer m b q r
    → Makes (cell_writes a.octets at n) answer a b p r
unfolding cell_writes
makes_raise {answer = answer} {a = a} {b = b} {p = p} {r = r} cell body at other n inside read found below is_body reads
    made =
    let copied = copied_from cell a.octets at inside read in
    let place : at + other ≡ other_copy a.octets at =
    ap (λ k. at + k) found ∙ sym (other_same cell a.octets at copied) in
    let gate : is_open cell other ≡ is_open a.octets (other_copy a.octets at) =
    open_same cell a.octets at copied other below ∙ ap (is_open a.octets) place in
    let writes : gated_writes (at + other) (is_open cell other) body
    ≡ gated_writes (other_copy a.octets at) (is_open a.octets (other_copy a.octets at)) (octets_of n) =
    ap (λ k. gated_writes k (is_open cell other) body) place
    ∙ ap (λ b. gated_writes (other_copy a.octets at) b body) gate
    ∙ ap (gated_writes (other_copy a.octets at) (is_open a.octets (other_copy a.octets at))) is_body in
    subst (λ (w : List Write). Makes w answer a b p r) writes (makes_after_read reads made)

-- a call that does not come past that read makes none of them
pub makes_no_raise : {fault : NvmFault} {a b : State} {p q : ℕ → List ℕ → Type 0} (at n : ℕ)
    → Reads (Some fault) a b p q → Makes (cell_writes a.octets at n) (Some fault) a b p q
unfolding cell_writes
makes_no_raise {fault = fault} {a = a} {b = b} {p = p} {q = q} at n reads =
    by_gate (other_copy a.octets at) (is_open a.octets (other_copy a.octets at)) where
      by_gate : (gate : ℕ) (was_open : Bool) → Makes (gated_writes gate was_open (octets_of n)) (Some fault) a b p q
      by_gate gate true = makes_not_read _ _ reads
      by_gate gate false = makes_not_read _ _ reads

pub length-formatted : (n : ℕ) → length (formatted n) ≡ 14
unfolding formatted
length-formatted n = simp length-append (omega (arith, length-octets_of n))

-- A formatted cell reads its number.
pub reading_formatted : (n : ℕ) → n < 2 ^ 48 → reading (formatted n) 0 ≡ Some n
unfolding reading formatted number_at octets_of
reading_formatted n fits = ap Some (omega arith)

-- a write of a formatted cell
pub reading_put : (a : List ℕ) (at n : ℕ) → at + 14 ≤ length a → n < 2 ^ 48
    → reading (put (record { at = at; bytes = formatted n }) a) at ≡ Some n
reading_put a at n inside fits =
    let w : Write = record { at = at; bytes = formatted n } in
    sym (reading_same (formatted n) (put w a) at (λ k h. sym
    (put_inside w a k (omega (arith, length-formatted n)) (omega (arith, length-formatted n)))))
    ∙ reading_formatted n fits

pub makes_format : {answer : Option NvmFault} {a b : State} {p q : ℕ → List ℕ → Type 0} (at n : ℕ) (octets : List ℕ)
    → octets ≡ octets_of n
    → Makes (record { at = at; bytes = 0xA5 ∷ octets ++ replicate 7 0 } ∷ []) answer a b p q
    → Makes (format_writes at n) answer a b p q
unfolding format_writes formatted
makes_format {answer = answer} {a = a} {b = b} {p = p} {q = q} at n octets is made =
    subst (λ o. Makes (record { at = at; bytes = 0xA5 ∷ o ++ replicate 7 0 } ∷ []) answer a b p q) is made

pub format_leaves : {T : Type 0} {a b : State} {p q : ℕ → List ℕ → Type 0} (result : Result T NvmFault) (at n : ℕ)
    → Makes (format_writes at n) (fault_of result) a b p q → OnOk result
    (b.octets ≡ put (record { at = at; bytes = formatted n }) a.octets)
unfolding format_writes
format_leaves (Ok _) at n made = made.octets
format_leaves (Err _) at n made = tt

pub format_reads : {T : Type 0} {a b : State} {p q : ℕ → List ℕ → Type 0} (result : Result T NvmFault) (at n : ℕ)
    → at + 14 ≤ length a.octets → n < 2 ^ 48
    → Makes (format_writes at n) (fault_of result) a b p q → OnOk result (reading b.octets at ≡ Some n)
unfolding format_writes
format_reads {a = a} (Ok _) at n inside fits made =
    ap (λ o. reading o at) made.octets ∙ reading_put a.octets at n inside fits
format_reads (Err _) at n inside fits made = tt

-- A write of a formatted cell stays inside the cell.
pub format_within : {answer : Option NvmFault} {a b : State} {p q : ℕ → List ℕ → Type 0} (at n : ℕ)
    → at + 14 ≤ length a.octets
    → Makes (format_writes at n) answer a b p q → Torn at 14 a.octets b.octets
unfolding format_writes
format_within {a = a} {b = b} at n inside made = elim (makes_reached made) [
  | inl torn ↦ torn_within torn (omega arith) (omega (arith, length-formatted n))
  | inr whole ↦ subst (Torn at 14 a.octets) (sym whole)
      (torn_within (torn_put (record { at = at; bytes = formatted n }) a.octets (omega (arith, length-formatted n)))
      (omega arith) (omega (arith, length-formatted n)))
]
