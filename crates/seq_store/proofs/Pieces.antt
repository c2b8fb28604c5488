-- A memory that is formatted by pieces.
use Rattle.std.proofs.Common.{◌≡◌, ℕ, ◌+◌, ◌*◌, ◌^◌, ◌<◌, ◌≤◌, zero, suc, List, [], ◌∷◌, ◌++◌, length, take, drop, replicate, Option, None, Some, refl, sym, ap, subst, ◌∙◌, arith, length-append, length-take-le, append_assoc, append-nil, add-zero}
use Rattle.std.specs.Prelude.{slice_index, Result, Ok, Err, OnOk}
use Rattle.std.proofs.Math.Seq.{take-append_seam, drop-append-add}
use Rattle.std.proofs.lemmas.Grind.{common_steps}
use Rattle.std.proofs.lemmas.List.{take_more, take-append-drop, take_all, drop_all, length-replicate, replicate-append-replicate}
use Rattle.knx_base.specs.Number.{octets_of}
use Rattle.knx_base.proofs.NumberLemmas.{length-octets_of}
use Rattle.nvm_model.specs.Gate.{open_octet}
use Rattle.nvm_model.specs.Nvm.{State, Makes, fault_of}
use Rattle.nvm_model.specs.Write.{Write, put, written}
use Rattle.nvm_model.specs.declared.fault.NvmFault.{NvmFault}
use Rattle.nvm_model.proofs.Lists.{written-append}
use Rattle.nvm_model.proofs.Runs.{makes_goes_on, makes_stops}
use Rattle.seq_store.specs.Layout.{width, store_size, each_octets, each_writes, head_write, zeros_write, formatted_memory, formatting_writes}
use Rattle.seq_store.specs.Laws.{Restores}
use Rattle.seq_store.specs.Ring.{bank_size, bank_body, generation_octets, numbers_octets}
use Rattle.seq_store.proofs.Formatted.{formatted_restores}

-- a write at the end of what is known
put_front : (front rest bytes : List ℕ) → put (record { at = length front; bytes = bytes }) (front ++ rest)
    ≡ (front ++ bytes) ++ drop (length bytes) rest
put_front front rest bytes =
    ap (λ t. (t ++ bytes) ++ drop (length front + length bytes) (front ++ rest)) (take-append_seam front rest)
    ∙ ap (λ d. (front ++ bytes) ++ d) (drop-append-add front rest (length bytes))

drop-drop-add : (m n : ℕ) (xs : List ℕ) → drop n (drop m xs) ≡ drop (m + n) xs
drop-drop-add m n xs = grind (arith, common_steps)

-- The writes of numbers make them.
written_each : (ns front rest : List ℕ) (at : ℕ) → at ≡ length front
    → written (each_writes at ns) (front ++ rest) ≡ front ++ (each_octets ns ++ drop (6 * length ns) rest)
unfolding each_octets each_writes
written_each [] front rest at is = refl
written_each (n ∷ ns) front rest at is =
    let bytes : List ℕ = octets_of n in
    let six : length (octets_of n) ≡ 6 = length-octets_of n in
    let next : at + 6 ≡ length (front ++ octets_of n) = simp length-append (omega (arith, is, six)) in
    let past : length (octets_of n) + 6 * length ns ≡ 6 * suc (length ns) = omega (arith, six) in
    ap (λ k. written (each_writes (at + 6) ns) (put (record { at = k; bytes = octets_of n }) (front ++ rest))) is
    ∙ ap (written (each_writes (at + 6) ns)) (put_front front rest (octets_of n))
    ∙ written_each ns (front ++ octets_of n) (drop (length (octets_of n)) rest) (at + 6) next
    ∙ ap (λ d. (front ++ octets_of n) ++ (each_octets ns ++ d))
    (drop-drop-add (length (octets_of n)) (6 * length ns) rest)
    ∙ ap (λ k. (front ++ octets_of n) ++ (each_octets ns ++ drop k rest)) past
    ∙ append_assoc front (octets_of n) (each_octets ns ++ drop (6 * suc (length ns)) rest)
    ∙ ap (λ t. front ++ t) (sym (append_assoc (octets_of n) (each_octets ns) (drop (6 * suc (length ns)) rest)))

length-each_octets : (ns : List ℕ) → length (each_octets ns) ≡ 6 * length ns
unfolding each_octets
length-each_octets [] = refl
length-each_octets (n ∷ ns) = simp length-append (omega (arith, length-octets_of n, length-each_octets ns))

zeros_each : (n : ℕ) → each_octets (replicate n 0) ≡ replicate (6 * n) 0
unfolding each_octets octets_of
zeros_each zero = refl
zeros_each (suc n) =
    let more : 6 * suc n ≡ 6 + 6 * n = omega arith in
    ap (λ zeros. replicate {A = ℕ} 6 0 ++ zeros) (zeros_each n) ∙ replicate-append-replicate {A = ℕ} 6 (6 * n) 0
    ∙ ap (λ k. replicate {A = ℕ} k 0) (sym more)

numbers_front : (number : ℕ → ℕ) (v : ℕ) → numbers_octets number (suc v) ≡ octets_of (number 0)
    ++ numbers_octets (λ k. number (suc k)) v
unfolding numbers_octets
numbers_front number zero = sym (append-nil (octets_of (number 0)))
numbers_front number (suc v) =
    ap (λ front. front ++ octets_of (number (suc v))) (numbers_front number v)
    ∙ append_assoc (octets_of (number 0)) (numbers_octets (λ k. number (suc k)) v) (octets_of (number (suc v)))

numbers_each : (ns : List ℕ) → numbers_octets (slice_index ns) (length ns) ≡ each_octets ns
unfolding numbers_octets each_octets
numbers_each [] = refl
numbers_each (n ∷ ns) =
    numbers_front (slice_index (n ∷ ns)) (length ns) ∙ ap (λ rest. octets_of n ++ rest) (numbers_each ns)

-- What the writes leave, in three parts.
module _ (reserved : ℕ) (marks octets : List ℕ) (size : length octets ≡ store_size (length marks)) where
  abbrev front : List ℕ
  front = open_octet ∷ replicate 8 0 ++ octets_of reserved

  length-front : length (open_octet ∷ replicate 8 0 ++ octets_of reserved) ≡ 15
  length-front = simp length-append (omega (arith, length-octets_of reserved))

  numbers_part : written (head_write reserved ∷ each_writes 15 marks) octets ≡ (front ++ each_octets marks)
      ++ drop (15 + 6 * length marks) octets
  unfolding octets_of
  numbers_part =
      ap (λ k. written (each_writes 15 marks) (front ++ drop k octets)) length-front
      ∙ written_each marks front (drop 15 octets) 15 (sym length-front)
      ∙ ap (λ d. front ++ (each_octets marks ++ d)) (drop-drop-add 15 (6 * length marks) octets)
      ∙ sym (append_assoc front (each_octets marks) (drop (15 + 6 * length marks) octets))

  length-numbers : 15 + 6 * length marks ≡ length (front ++ each_octets marks)
  length-numbers = simp length-append (omega (arith, length-front, length-each_octets marks, length-octets_of reserved))

  zeros_part : written (zeros_write (length marks) ∷ []) ((front ++ each_octets marks)
      ++ drop (15 + 6 * length marks) octets)
      ≡ ((front ++ each_octets marks) ++ replicate 271 0) ++ drop (286 + 6 * length marks) octets
  zeros_part =
      let past : 15 + 6 * length marks + 271 ≡ 286 + 6 * length marks = omega arith in
      ap (λ k. put (record { at = k; bytes = replicate 271 0 })
      ((front ++ each_octets marks) ++ drop (15 + 6 * length marks) octets)) length-numbers
      ∙ put_front (front ++ each_octets marks) (drop (15 + 6 * length marks) octets) (replicate 271 0)
      ∙ ap (λ k. ((front ++ each_octets marks) ++ replicate 271 0) ++ drop k (drop (15 + 6 * length marks) octets))
      (length-replicate {A = ℕ} 271 0)
      ∙ ap (λ d. ((front ++ each_octets marks) ++ replicate 271 0) ++ d)
      (drop-drop-add (15 + 6 * length marks) 271 octets)
      ∙ ap (λ k. ((front ++ each_octets marks) ++ replicate 271 0) ++ drop k octets) past

  length-zeros : 286 + 6 * length marks ≡ length ((front ++ each_octets marks) ++ replicate 271 0)
  length-zeros =
      let zeros : length (replicate {A = ℕ} 271 0) ≡ 271 = length-replicate {A = ℕ} 271 0 in
      omega (arith, length-append (front ++ each_octets marks) (replicate 271 0), length-numbers, zeros)

  last_part : written (each_writes (286 + 6 * length marks) (replicate (length marks) 0))
      (((front ++ each_octets marks) ++ replicate 271 0) ++ drop (286 + 6 * length marks) octets)
      ≡ ((front ++ each_octets marks) ++ replicate 271 0) ++ replicate (6 * length marks) 0
  last_part =
      let zeros : length (replicate {A = ℕ} (length marks) 0) ≡ length marks =
      length-replicate {A = ℕ} (length marks) 0 in
      written_each (replicate (length marks) 0) ((front ++ each_octets marks) ++ replicate 271 0)
      (drop (286 + 6 * length marks) octets) (286 + 6 * length marks)
      length-zeros
      ∙ ap (λ d. ((front ++ each_octets marks) ++ replicate 271 0) ++ (each_octets (replicate (length marks) 0) ++ d))
      (drop-drop-add (286 + 6 * length marks) (6 * length (replicate {A = ℕ} (length marks) 0)) octets
      ∙ drop_all (286 + 6 * length marks + 6 * length (replicate {A = ℕ} (length marks) 0)) octets
      (omega (arith, size, zeros)))
      ∙ ap (λ d. ((front ++ each_octets marks) ++ replicate 271 0) ++ d)
      (append-nil (each_octets (replicate (length marks) 0)) ∙ zeros_each (length marks))

  whole : written (formatting_writes reserved marks) octets ≡ ((front ++ each_octets marks) ++ replicate 271 0)
      ++ replicate (6 * length marks) 0
  unfolding formatting_writes
  whole =
      written-append ((head_write reserved ∷ each_writes 15 marks) ++ zeros_write (length marks) ∷ [])
      (each_writes (286 + 6 * length marks) (replicate (length marks) 0)) octets
      ∙ ap (written (each_writes (286 + 6 * length marks) (replicate (length marks) 0)))
      (written-append (head_write reserved ∷ each_writes 15 marks) (zeros_write (length marks) ∷ []) octets
      ∙ ap (written (zeros_write (length marks) ∷ [])) numbers_part ∙ zeros_part)
      ∙ last_part

-- the zeros of both banks
zeros_regrouped : (front : List ℕ) (lanes : ℕ) → (front ++ replicate 271 0) ++ replicate (6 * lanes) 0
    ≡ (front ++ replicate (16 * (7 + 1)) 0) ++ replicate (bank_size width (1 + lanes)) 0
zeros_regrouped front lanes =
    let same : 271 + 6 * lanes ≡ 16 * (7 + 1) + bank_size width (1 + lanes) = omega arith in
    append_assoc front (replicate 271 0) (replicate (6 * lanes) 0)
    ∙ ap (λ zeros. front ++ zeros) (replicate-append-replicate 271 (6 * lanes) 0 ∙ ap (λ k. replicate k 0) same
    ∙ sym (replicate-append-replicate (16 * (7 + 1)) (bank_size width (1 + lanes)) 0))
    ∙ sym (append_assoc front (replicate (16 * (7 + 1)) 0) (replicate (bank_size width (1 + lanes)) 0))

first_body : (reserved : ℕ) (marks : List ℕ) → ((replicate 8 0 ++ octets_of reserved) ++ each_octets marks)
    ++ replicate (16 * (7 + 1)) 0
    ≡ bank_body 1 (1 + length marks) 0 (slice_index (reserved ∷ marks))
unfolding bank_body generation_octets octets_of each_octets
first_body reserved marks =
    let next : suc (length marks) ≡ 1 + length marks = omega arith in
    ap (λ front. front ++ replicate (16 * (7 + 1)) 0)
    (append_assoc (replicate 8 0) (octets_of reserved) (each_octets marks)
    ∙ ap (λ numbers. replicate 8 0 ++ numbers) (sym (numbers_each (reserved ∷ marks))
    ∙ ap (numbers_octets (slice_index (reserved ∷ marks))) next))

pub formatting_makes : (reserved : ℕ) (marks octets : List ℕ) → length octets ≡ store_size (length marks)
    → written (formatting_writes reserved marks) octets ≡ formatted_memory reserved marks
unfolding formatted_memory
formatting_makes reserved marks octets size =
    whole reserved marks octets size
    ∙ zeros_regrouped ((open_octet ∷ replicate 8 0 ++ octets_of reserved) ++ each_octets marks) (length marks)
    ∙ ap (λ body. (open_octet ∷ body) ++ replicate (bank_size width (1 + length marks)) 0) (first_body reserved marks)

each-append : (xs ys : List ℕ) (at : ℕ) → each_writes at (xs ++ ys) ≡ each_writes at xs
    ++ each_writes (at + 6 * length xs) ys
unfolding each_writes
each-append [] ys at = ap (λ at. each_writes at ys) (sym (add-zero at))
each-append (x ∷ xs) ys at =
    let next : at + 6 + 6 * length xs ≡ at + 6 * suc (length xs) = omega arith in
    ap (λ ws. record { at = at; bytes = octets_of x } ∷ ws) (each-append xs ys (at + 6))
    ∙ ap (λ place. record { at = at; bytes = octets_of x } ∷ each_writes (at + 6) xs ++ each_writes place ys) next

-- behind any first writes, the writes of numbers from a place on
module _ (first : List Write) (start : ℕ) (ns : List ℕ) where
  -- one number more
  pub each_more : {answer : Option NvmFault} {a b c : State} {p q r : ℕ → List ℕ → Type 0} (i place n : ℕ)
      → i < length ns → place ≡ start + 6 * i → n ≡ slice_index ns i
      → Makes (first ++ each_writes start (take i ns)) None a b p q → Makes (each_writes place (n ∷ [])) answer b c q r
      → Makes (first ++ each_writes start (take (i + 1) ns)) answer a c p r
  each_more {answer = answer} {a = a} {b = b} {c = c} {p = p} {q = q} {r = r} i place n below at is front then =
      let long : length (take i ns) ≡ i = length-take-le i ns (omega (arith, below)) in
      let here : start + 6 * length (take i ns) ≡ place = omega (arith, long, at) in
      let more : (first ++ each_writes start (take i ns)) ++ each_writes place (n ∷ []) ≡ first
      ++ each_writes start (take (i + 1) ns) =
      append_assoc first (each_writes start (take i ns)) (each_writes place (n ∷ []))
      ∙ ap (λ ws. first ++ ws)
      (ap (λ n. each_writes start (take i ns) ++ each_writes place (n ∷ [])) is
      ∙ ap (λ place. each_writes start (take i ns) ++ each_writes place (slice_index ns i ∷ [])) (sym here)
      ∙ sym (each-append (take i ns) (slice_index ns i ∷ []) start)
      ∙ ap (each_writes start) (sym (take_more ns i 0 below))) in
      subst (λ ws. Makes ws answer a c p r) more (makes_goes_on front then)

  -- a fault ends them
  pub each_stops : {fault : NvmFault} {a b : State} {p q : ℕ → List ℕ → Type 0} (i : ℕ)
      → Makes (first ++ each_writes start (take i ns)) (Some fault) a b p q
      → Makes (first ++ each_writes start ns) (Some fault) a b p q
  each_stops {fault = fault} {a = a} {b = b} {p = p} {q = q} i stopped =
      let rest : (first ++ each_writes start (take i ns)) ++ each_writes (start + 6 * length (take i ns)) (drop i ns)
      ≡ first ++ each_writes start ns =
      append_assoc first (each_writes start (take i ns)) (each_writes (start + 6 * length (take i ns)) (drop i ns))
      ∙ ap (λ ws. first ++ ws) (sym (each-append (take i ns) (drop i ns) start)
      ∙ ap (each_writes start) (take-append-drop i ns)) in
      subst (λ ws. Makes ws (Some fault) a b p q) rest (makes_stops
      (each_writes (start + 6 * length (take i ns)) (drop i ns)) stopped)

  pub each_begins : {answer : Option NvmFault} {a b : State} {p q : ℕ → List ℕ → Type 0} → Makes first answer a b p q
      → Makes (first ++ each_writes start (take 0 ns)) answer a b p q
  unfolding each_writes
  each_begins {answer = answer} {a = a} {b = b} {p = p} {q = q} made =
      subst (λ ws. Makes ws answer a b p q) (sym (append-nil first)) made

  pub each_ends : {answer : Option NvmFault} {a b : State} {p q : ℕ → List ℕ → Type 0} (i : ℕ) → length ns ≤ i
      → Makes (first ++ each_writes start (take i ns)) answer a b p q
      → Makes (first ++ each_writes start ns) answer a b p q
  each_ends {answer = answer} {a = a} {b = b} {p = p} {q = q} i all made =
      subst (λ ns. Makes (first ++ each_writes start ns) answer a b p q) (take_all i ns all) made

zero_there : (n k : ℕ) → 0 ≡ slice_index (replicate n 0) k
zero_there zero k = refl
zero_there (suc n) zero = refl
zero_there (suc n) (suc k) = zero_there n k

-- Numbers, then the zeros that any memory has, then six zeros for each mark.
abbrev pub before_zeros : ℕ → List ℕ → List Write
before_zeros reserved marks = (head_write reserved ∷ each_writes 15 marks) ++ zeros_write (length marks) ∷ []

abbrev pub up_to_zeros : ℕ → List ℕ → ℕ → List Write
up_to_zeros reserved marks k =
    before_zeros reserved marks ++ each_writes (286 + 6 * length marks) (take k (replicate (length marks) 0))

module _ (reserved : ℕ) (marks : List ℕ) where
  pub before_makes : {answer : Option NvmFault} {a b c : State} {p q r : ℕ → List ℕ → Type 0} (at : ℕ)
      → at ≡ 15 + 6 * length marks
      → Makes (head_write reserved ∷ each_writes 15 marks) None a b p q
      → Makes (record { at = at; bytes = replicate 271 0 } ∷ []) answer b c q r
      → Makes (before_zeros reserved marks) answer a c p r
  before_makes {answer = answer} {b = b} {c = c} {q = q} {r = r} at is front then =
      makes_goes_on front (subst (λ at. Makes (record { at = at; bytes = replicate 271 0 } ∷ []) answer b c q r) is
      then)

  pub zeros_begin : {answer : Option NvmFault} {a b : State} {p q : ℕ → List ℕ → Type 0}
      → Makes (before_zeros reserved marks) answer a b p q
      → Makes (up_to_zeros reserved marks 0) answer a b p q
  zeros_begin made =
      each_begins (before_zeros reserved marks) (286 + 6 * length marks) (replicate (length marks) 0) made

  pub zeros_more : {answer : Option NvmFault} {a b c : State} {p q r : ℕ → List ℕ → Type 0} (k place : ℕ)
      → k < length marks → place ≡ 286 + 6 * length marks + 6 * k
      → Makes (up_to_zeros reserved marks k) None a b p q → Makes (record { at = place; bytes = replicate 6 0 } ∷ [])
      answer b c q r
      → Makes (up_to_zeros reserved marks (k + 1)) answer a c p r
  unfolding each_writes octets_of
  zeros_more k place below at front then =
      let zeros : length (replicate {A = ℕ} (length marks) 0) ≡ length marks =
      length-replicate {A = ℕ} (length marks) 0 in
      each_more (before_zeros reserved marks) (286 + 6 * length marks) (replicate (length marks) 0) k place 0
      (omega (arith, below, zeros)) at (zero_there (length marks) k) front then

  pub zeros_stop : {fault : NvmFault} {a b : State} {p q : ℕ → List ℕ → Type 0} (k : ℕ)
      → Makes (up_to_zeros reserved marks k) (Some fault) a b p q
      → Makes (formatting_writes reserved marks) (Some fault) a b p q
  unfolding formatting_writes
  zeros_stop k stopped =
      each_stops (before_zeros reserved marks) (286 + 6 * length marks) (replicate (length marks) 0) k stopped

  pub zeros_end : {answer : Option NvmFault} {a b : State} {p q : ℕ → List ℕ → Type 0} (k : ℕ) → length marks ≤ k
      → Makes (up_to_zeros reserved marks k) answer a b p q
      → Makes (formatting_writes reserved marks) answer a b p q
  unfolding formatting_writes
  zeros_end k all made =
      let zeros : length (replicate {A = ℕ} (length marks) 0) ≡ length marks =
      length-replicate {A = ℕ} (length marks) 0 in
      each_ends (before_zeros reserved marks) (286 + 6 * length marks) (replicate (length marks) 0) k
      (omega (arith, all, zeros)) made

  pub numbers_stop : {fault : NvmFault} {a b : State} {p q : ℕ → List ℕ → Type 0}
      → Makes (head_write reserved ∷ each_writes 15 marks) (Some fault) a b p q
      → Makes (formatting_writes reserved marks) (Some fault) a b p q
  numbers_stop stopped = zeros_stop 0 (zeros_begin (makes_stops (zeros_write (length marks) ∷ []) stopped))

pub formats : {T : Type 0} {a b : State} {p q : ℕ → List ℕ → Type 0} (result : Result T NvmFault) (reserved : ℕ)
    (marks : List ℕ)
    → length a.octets ≡ store_size (length marks) → Makes (formatting_writes reserved marks) (fault_of result) a b p q
    → OnOk result (b.octets ≡ formatted_memory reserved marks)
formats {a = a} (Ok _) reserved marks size made = made.octets ∙ formatting_makes reserved marks a.octets size
formats (Err _) reserved marks size made = tt

pub formats_restoring : {T : Type 0} {a b : State} {p q : ℕ → List ℕ → Type 0} (result : Result T NvmFault)
    (reserved : ℕ) (marks : List ℕ)
    → length a.octets ≡ store_size (length marks) → Makes (formatting_writes reserved marks) (fault_of result) a b p q
    → OnOk result (reserved < 2 ^ 48) → OnOk result ((k : ℕ) → k < length marks → slice_index marks k < 2 ^ 48)
    → OnOk result (Restores b.octets reserved marks)
formats_restoring {a = a} (Ok _) reserved marks size made fits each =
    subst (λ octets. Restores octets reserved marks) (sym (made.octets ∙ formatting_makes reserved marks a.octets size))
    (formatted_restores reserved marks fits each)
formats_restoring (Err _) reserved marks size made fits each = tt
