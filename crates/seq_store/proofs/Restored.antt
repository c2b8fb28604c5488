-- What a memory restores after raises, by the laws of the layout alone.
use Rattle.std.proofs.Common.{◌≡◌, ◌≢◌, ℕ, ◌+◌, ◌<◌, ◌≤◌, suc, List, [], ◌∷◌, length, Some, refl, sym, ap, subst, ◌∙◌, inl, inr, arith}
use Rattle.std.specs.Prelude.{slice_index, slice_set, unwrap_or}
use Rattle.std.proofs.lemmas.Bool.{cases_order}
use Rattle.std.proofs.lemmas.Grind.{common_steps}
use Rattle.seq_store.specs.Layout.{store_size, value_of}
use Rattle.seq_store.specs.Laws.{Restores, restore, IsRaised, IsOldOrRaised}
use Rattle.seq_store.specs.Runs.{Numbers, RestoresNumbers, marks_from, numbers_in, Raise, Reserve, Mark, value_raised, number_raised, after_raise, RestoresSome}

pub restores_marked : (image c : List ℕ) (last : ℕ) (marks : List ℕ) (lane n : ℕ) → lane < length marks
    → Restores image last marks
    → IsRaised (length marks) image (1 + lane) n c → Restores c last (slice_set marks lane n)
restores_marked image c last marks lane n in_range restores raised = record {
  size = subst (λ lanes. length c ≡ store_size lanes) (sym same_lanes) raised.ready.size;
  reserved = subst (λ lanes. value_of lanes c 0 ≡ Some last) (sym same_lanes)
      (raised.others 0 (omega arith) (λ same. absurd (omega (arith, same))) ∙ restores.reserved);
  each = λ other h. subst (λ lanes. value_of lanes c (1 + other) ≡ Some (slice_index (slice_set marks lane n) other))
      (sym same_lanes)
      (each other (omega (arith, h, same_lanes)));
} where
  same_lanes : length (slice_set marks lane n) ≡ length marks
  same_lanes = grind (arith, common_steps)

  each : (other : ℕ) → other < length marks → value_of (length marks) c (1 + other)
      ≡ Some (slice_index (slice_set marks lane n) other)
  each other h = elim (cases_order other lane) [
    | inl same ↦ subst (λ k. value_of (length marks) c (1 + k) ≡ Some (slice_index (slice_set marks lane n) k))
        (sym same)
        (raised.here ∙ ap Some (grind (arith, common_steps)))
    | inr apart ↦
        let not_same : other ≢ lane =
        λ same. elim apart [ inl below ↦ absurd (omega arith) | inr above ↦ absurd (omega arith) ] in
        raised.others (1 + other) (omega arith) (λ same. not_same (omega (arith, same)))
        ∙ restores.each other h ∙ ap Some (grind (arith, common_steps))
  ]

pub restores_reserved : (image c : List ℕ) (last : ℕ) (marks : List ℕ) (n : ℕ) → Restores image last marks
    → IsRaised (length marks) image 0 n c → Restores c n marks
restores_reserved image c last marks n restores raised = record {
  size = raised.ready.size;
  reserved = raised.here;
  each = λ lane in_range. raised.others (1 + lane) (omega arith) (λ same. absurd (omega (arith, same)))
      ∙ restores.each lane in_range;
}

-- a raise of a value that is there
abbrev pub InRange : Raise → Numbers → Type 0
InRange (Reserve n) numbers = Unit {0}
InRange (Mark lane n) numbers = lane < length numbers.marks

pub value_in_range : (r : Raise) (numbers : Numbers) → InRange r numbers → value_raised r ≤ length numbers.marks
value_in_range (Reserve n) numbers in_range = omega arith
value_in_range (Mark lane n) numbers in_range = omega (arith, in_range)

pub restores_raised : (r : Raise) (numbers : Numbers) (image c : List ℕ) → InRange r numbers
    → RestoresNumbers numbers image
    → IsRaised (length numbers.marks) image (value_raised r) (number_raised r) c
    → RestoresNumbers (after_raise r numbers) c
restores_raised (Reserve n) numbers image c in_range restores raised =
    restores_reserved image c numbers.reserved numbers.marks n restores raised
restores_raised (Mark lane n) numbers image c in_range restores raised =
    restores_marked image c numbers.reserved numbers.marks lane n in_range restores raised

-- Where the value is the old one all values are as before.
restores_old : (numbers : Numbers) (image c : List ℕ) (v n : ℕ) → RestoresNumbers numbers image
    → IsOldOrRaised (length numbers.marks) image v n c → value_of (length numbers.marks) c v
    ≡ value_of (length numbers.marks) image v
    → RestoresNumbers numbers c
restores_old numbers image c v n restores moment same = record {
  size = moment.ready.size;
  reserved = each 0 (omega arith) ∙ restores.reserved;
  each = λ lane in_range. each (1 + lane) (omega (arith, in_range)) ∙ restores.each lane in_range;
} where
  each : (w : ℕ) → w ≤ length numbers.marks → value_of (length numbers.marks) c w
      ≡ value_of (length numbers.marks) image w
  each w in_range = elim (cases_order w v) [
    | inl is ↦ rw is same
    | inr rest ↦
        let other : w ≢ v = λ is. elim rest [
          | inl below ↦ absurd (omega (arith, below, is))
          | inr above ↦ absurd
              (omega (arith, above, is))
        ] in
        moment.others w in_range other
  ]

-- At each moment of a raise its memory restores the old numbers or the new.
pub restores_some : (r : Raise) (numbers : Numbers) (image c : List ℕ) → InRange r numbers
    → RestoresNumbers numbers image
    → IsOldOrRaised (length numbers.marks) image (value_raised r) (number_raised r) c → RestoresSome (r ∷ []) numbers c
restores_some r numbers image c in_range restores moment = elim moment.here [
  | inl old ↦ inl (restores_old numbers image c (value_raised r) (number_raised r) restores moment old)
  | inr new ↦ inr (restores_raised r numbers image c in_range restores
      (record { ready = moment.ready; here = new; others = moment.others }))
]

-- Marks that are told one by one.
marks_are : (marks : List ℕ) (lanes : ℕ) (image : List ℕ) (lane : ℕ)
    → ((k : ℕ) → k < length marks → restore lanes image (lane + k) ≡ Some (slice_index marks k))
    → marks_from lanes image lane (length marks) ≡ marks
marks_are [] lanes image lane each = refl
marks_are (mark ∷ marks) lanes image lane each =
    let here : restore lanes image lane ≡ Some mark = ap (restore lanes image) (omega arith) ∙ each 0 (omega arith) in
    ap (λ o. unwrap_or o 0 ∷ marks_from lanes image (lane + 1) (length marks)) here
    ∙ ap (λ rest. mark ∷ rest) (marks_are marks lanes image (lane + 1)
    (λ k h. ap (restore lanes image) (omega arith) ∙ each (suc k) (omega (arith, h))))

-- The numbers of an image are those that it restores.
pub numbers_restored : (numbers : Numbers) (image : List ℕ) → RestoresNumbers numbers image
    → numbers_in (length numbers.marks) image ≡ numbers
numbers_restored numbers image restores =
    ap (λ o. let n : Numbers = record {
      reserved = unwrap_or o 0;
      marks = marks_from (length numbers.marks) image 0 (length numbers.marks);
    } in n) restores.reserved
    ∙ ap (λ marks. let n : Numbers = record { reserved = numbers.reserved; marks = marks } in n)
    (marks_are numbers.marks (length numbers.marks) image 0 (λ k h. ap (restore (length numbers.marks) image)
    (omega arith) ∙ restores.each k h))
