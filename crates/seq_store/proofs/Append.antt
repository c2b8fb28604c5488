-- A record more, at each moment of its writes.
use Rattle.std.proofs.Common.{◌≡◌, ◌≢◌, ◌⊎◌, ℕ, ◌+◌, ◌*◌, ◌^◌, ◌<◌, ◌≤◌, max, Bool, true, false, List, Option, Some, refl, sym, ap, ◌∙◌, inl, inr, arith}
use Rattle.std.specs.Prelude.{slice_index}
use Rattle.nvm_model.specs.Gate.{is_open, HasBody, IsGatedMoment}
use Rattle.nvm_model.specs.Write.{Torn}
use Rattle.seq_store.specs.Ring.{record_number, records_number, first_shut, bank_number, records_place, bank_size, bank_value, open_generation, record_body}
use Rattle.seq_store.proofs.Same.{records_size, sixteen, bank_number_same, open_head_same}
use Rattle.seq_store.proofs.Bodies.{Indexes, record_index, record_six}
use Rattle.seq_store.proofs.Records.{FirstShut, first_shut_at, one_changed, shut_number, open_number, other_number}

module _ (width values at : ℕ) (a c : List ℕ) (place : ℕ)
    (is : first_shut width a 16 (records_place values at) ≡ Some place) (torn : Torn place (7 + width) a c) where
  range : FirstShut width a 16 (records_place values at) place
  range = first_shut_at width a 16 (records_place values at) place is

  pub append_open : open_generation values c at ≡ open_generation values a at
  append_open = open_head_same values c a at at (λ k h. torn.before (at + k) (omega (arith, h, range.behind)))

  pub append_value : (m w : ℕ) → w < values → record_number width c place w ≡ m
      → bank_value width values c at w ≡ max m (bank_value width values a at w)
  unfolding bank_value
  append_value m w below now =
      let number : bank_number c at w ≡ bank_number a at w =
      bank_number_same c a at at w (λ k h. torn.before (at + (9 + 6 * w + k))
      (omega (arith, h, below, range.behind))) in
      let records : records_number width c w 16 (records_place values at)
      ≡ max m (records_number width a w 16 (records_place values at)) =
      one_changed width a c place torn w m (shut_number width a place w range.shut) now 16 (records_place values at)
      is in
      omega (arith, number, records)

  -- a bank that this one does not overlap is as before
  pub apart_same : (other : ℕ) → (other + bank_size width values ≤ at) ⊎ (at + bank_size width values ≤ other) → (k : ℕ)
      → k < bank_size width values
      → slice_index c (other + k) ≡ slice_index a (other + k)
  apart_same other (inl before) k h = torn.before (other + k) (omega (arith, h, before, range.behind))
  apart_same other (inr behind) k h = torn.after (other + k) (omega (arith, h, behind, range.inside, sixteen width))

  pub body_number_here : (v n : ℕ) → Indexes width v → n < 2 ^ 48 → is_open c place ≡ true
      → HasBody place (record_body width v n) c
      → (record_number width c place v ≡ n) × ((w : ℕ) → w ≢ v → record_number width c place w ≡ 0)
  body_number_here v n index_fits fits gate has = (
    open_number width c place v n gate (record_index width place v n c index_fits has)
        (record_six width place v n c fits has),
    λ w other. other_number width c place v w gate (record_index width place v n c index_fits has) other,
  )

  by_gate : (v n : ℕ) → Indexes width v → n < 2 ^ 48 → HasBody place (record_body width v n) c → (t : Bool)
      → is_open c place ≡ t
      → ((w : ℕ) → record_number width c place w ≡ 0) ⊎ ((record_number width c place v ≡ n)
      × ((w : ℕ) → w ≢ v → record_number width c place w ≡ 0))
  by_gate v n index_fits fits has true gate = inr (body_number_here v n index_fits fits gate has)
  by_gate v n index_fits fits has false gate = inl (λ w. shut_number width c place w gate)

  -- At each moment the record does not count, or it is that of the value.
  pub moment_number : (v n : ℕ) → Indexes width v → n < 2 ^ 48 → IsGatedMoment place (record_body width v n) a c
      → ((w : ℕ) → record_number width c place w ≡ 0) ⊎ ((record_number width c place v ≡ n)
      × ((w : ℕ) → w ≢ v → record_number width c place w ≡ 0))
  moment_number v n index_fits fits moment = elim moment.behind [
    | inl shut ↦ inl (λ w. shut_number width c place w shut)
    | inr rest ↦ elim rest [
      | inl before ↦ absurd (cc (before.was_open, range.shut))
      | inr has ↦ by_gate v n index_fits fits has (is_open c place) refl
    ]
  ]
