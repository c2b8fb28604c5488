-- A raise in a ring: a record more or a change of banks, at each moment of its writes.
use Rattle.std.proofs.Common.{◌≡◌, ◌≢◌, ◌⊎◌, ℕ, ◌+◌, ◌*◌, ◌^◌, ◌<◌, ◌≤◌, max, Bool, true, false, List, length, Option, Some, None, refl, sym, ap, subst, ◌∙◌, inl, inr, arith}
use Rattle.std.specs.Prelude.{slice_index}
use Rattle.std.specs.List.{All}
use Rattle.std.proofs.lemmas.Bool.{cases_order}
use Rattle.nvm_model.specs.Gate.{is_open, gated_writes, HasBody, IsGatedMoment, IsOpenOver}
use Rattle.nvm_model.specs.Write.{FitsIn, Torn, written, Reached}
use Rattle.nvm_model.proofs.GateLemmas.{gated_moment, gated_whole, gated_few, gated_fit}
use Rattle.nvm_model.proofs.Lists.{reached_whole}
use Rattle.seq_store.specs.Ring.{generation_at, first_shut, record_number, records_place, bank_size, bank_value, open_generation, banks_by, banks_of, bank_body, record_body, replaced, writes_by, writes_in}
use Rattle.seq_store.specs.declared.bank.Banks.{Banks}
use Rattle.seq_store.proofs.Same.{records_size, sixteen, open_same, bank_value_same}
use Rattle.seq_store.proofs.Bodies.{Indexes, length-record_body, length-bank_body}
use Rattle.seq_store.proofs.Records.{FirstShut, first_shut_at}
use Rattle.seq_store.proofs.Append.{append_open, append_value, apart_same, moment_number, body_number_here}
use Rattle.seq_store.proofs.Current.{CurrentOpen, current_open, placed, kept, turned}
use Rattle.seq_store.proofs.Turn.{IsOpenBank, opened, turn_moment, turned_open, turned_value, replaced_here, replaced_other}

-- a ring with these values
pub record Shows (width values at : ℕ) (image : List ℕ) (value : ℕ → ℕ) : Type 0 where
  pub banks : Banks
  pub found : banks_of width values at image ≡ Some banks
  pub each : (w : ℕ) → w < values → bank_value width values image banks.current w ≡ value w

-- the old values, or those with one replaced
pub record IsRingMoment (width values at : ℕ) (a : List ℕ) (banks : Banks) (v n : ℕ) (c : List ℕ) : Type 0 where
  pub size : length c ≡ length a
  pub shows : Shows width values at c (bank_value width values a banks.current)
      ⊎ Shows width values at c (replaced width values a banks.current v n)

-- where the banks of a ring are
record ArePlaced (width values at : ℕ) (banks : Banks) (size : ℕ) : Type 0 where
  pub current : banks.current + bank_size width values ≤ size
  pub other : banks.other + bank_size width values ≤ size
  pub apart : (banks.other + bank_size width values ≤ banks.current)
      ⊎ (banks.current + bank_size width values ≤ banks.other)

module _ (width values at : ℕ) (a : List ℕ) (banks : Banks) (found : banks_of width values at a ≡ Some banks)
    (inside : at + 2 * bank_size width values ≤ length a) (few : values ≤ 2 ^ 15) (v n : ℕ) (in_range : v < values)
    (index_fits : Indexes width v) (fits : n < 2 ^ 48) (above : bank_value width values a banks.current v < n) where
  by_places : banks_by (open_generation values a at) (open_generation values a (at + bank_size width values)) at
      (at + bank_size width values) ≡ Some banks
  unfolding banks_of
  by_places = found

  from_places : (c : List ℕ) (b : Banks)
      → banks_by (open_generation values c at) (open_generation values c (at + bank_size width values)) at
      (at + bank_size width values) ≡ Some b
      → banks_of width values at c ≡ Some b
  unfolding banks_of
  from_places c b is = is

  places : ArePlaced width values at banks (length a)
  places = elim (placed (open_generation values a) (open_generation values a) at (at + bank_size width values) banks
      by_places) [
        | inl are ↦ record {
          current = omega (arith, inside, are.0);
          other = omega (arith, inside, are.1);
          apart = inr (omega (arith, are.0, are.1));
        }
        | inr are ↦ record {
          current = omega (arith, inside, are.0);
          other = omega (arith, inside, are.1);
          apart = inl (omega (arith, are.0, are.1));
        }
      ]

  -- the other values, and the one that is replaced
  replaced_value : (m w : ℕ) → (w ≡ v → m ≡ n) → (w ≢ v → m ≡ 0)
      → max m (bank_value width values a banks.current w) ≡ replaced width values a banks.current v n w
  replaced_value m w here other = elim (cases_order w v) [
    | inl same ↦
        let old : bank_value width values a banks.current w < n = rw same above in
        let new : replaced width values a banks.current v n w ≡ n =
        ap (replaced width values a banks.current v n) same ∙ replaced_here width values a banks.current v n in
        omega (arith, old, new, here same)
    | inr rest ↦
        let apart : w ≢ v = λ same. elim rest [
          | inl less ↦ absurd (omega (arith, less, same))
          | inr more ↦ absurd
              (omega (arith, more, same))
        ] in
        omega (arith, other apart, replaced_other width values a banks.current v n w apart)
  ]

  -- ---- a record more
  module _ (place : ℕ) (free : first_shut width a 16 (records_place values banks.current) ≡ Some place) where
    range : FirstShut width a 16 (records_place values banks.current) place
    range = first_shut_at width a 16 (records_place values banks.current) place free

    record_inside : place + 1 + length (record_body width v n) ≤ length a
    record_inside = omega (arith, range.inside, sixteen width, length-record_body width v n, places.current)

    module _ (c : List ℕ) (outside : Torn place (1 + length (record_body width v n)) a c) where
      torn : Torn place (7 + width) a c
      torn = let size : 1 + length (record_body width v n) ≡ 7 + width = omega (arith, length-record_body width v n) in
          subst (λ m. Torn place m a c) size outside

      append_banks : banks_of width values at c ≡ Some banks
      append_banks =
          from_places c banks
          (kept (open_generation values a) (open_generation values c) at (at + bank_size width values) banks by_places
          (append_open width values banks.current a c place free torn)
          (inr (open_same width values c a banks.other banks.other
          (apart_same width values banks.current a c place free torn banks.other places.apart))))

      append_old : ((w : ℕ) → record_number width c place w ≡ 0)
          → Shows width values at c (bank_value width values a banks.current)
      append_old none = record {
        banks = banks;
        found = append_banks;
        each = λ w below. append_value width values banks.current a c place free torn 0 w below (none w) ∙ omega arith;
      }

      append_new : record_number width c place v ≡ n → ((w : ℕ) → w ≢ v → record_number width c place w ≡ 0)
          → Shows width values at c (replaced width values a banks.current v n)
      append_new here other = record {
        banks = banks;
        found = append_banks;
        each = λ w below.
            append_value width values banks.current a c place free torn (record_number width c place w) w below refl
            ∙ replaced_value (record_number width c place w) w (λ same. ap (record_number width c place) same ∙ here)
            (other w);
      }

      append_shows : IsGatedMoment place (record_body width v n) a c → IsRingMoment width values at a banks v n c
      append_shows moment = record {
        size = torn.size;
        shows = elim (moment_number width values banks.current a c place free torn v n index_fits fits moment) [
          | inl none ↦ inl (append_old none)
          | inr is ↦ inr (append_new is.0 is.1)
        ];
      }

      append_opened : IsOpenOver place (record_body width v n) c
          → Shows width values at c (replaced width values a banks.current v n)
      append_opened over =
          let numbers = body_number_here width values banks.current a c place free torn v n index_fits fits
          over.open_gate over.holds in
          append_new numbers.0 numbers.1

  -- ---- a change of banks
  abbrev body : List ℕ
  body = bank_body width values (generation_at a (banks.current + 1) + 1) (replaced width values a banks.current v n)

  bank_inside : banks.other + 1 + length (bank_body width values (generation_at a (banks.current + 1) + 1)
      (replaced width values a banks.current v n)) ≤ length a
  bank_inside =
      omega (
        arith,
        places.other,
        length-bank_body width values (generation_at a (banks.current + 1) + 1)
            (replaced width values a banks.current v n),
      )

  is_current : CurrentOpen (open_generation values a) banks
  is_current = current_open (open_generation values a) (open_generation values a) at (at + bank_size width values) banks
      by_places

  current_opened : IsOpenBank values a banks.current is_current.generation
  current_opened = opened values a banks.current is_current.generation is_current.is_open

  old_open : IsOpenBank values a banks.current (generation_at a (banks.current + 1))
  old_open = subst (IsOpenBank values a banks.current) (sym current_opened.generation) current_opened

  old_generation : open_generation values a banks.current ≡ Some (generation_at a (banks.current + 1))
  old_generation = is_current.is_open ∙ ap Some (sym current_opened.generation)

  module _ (c : List ℕ) (outside : Torn banks.other (1 + length
      (bank_body width values (generation_at a (banks.current + 1) + 1) (replaced width values a banks.current v n))) a
      c) where
    untouched : (k : ℕ) → k < bank_size width values → slice_index c (banks.current + k)
        ≡ slice_index a (banks.current + k)
    untouched k h = elim places.apart [
      | inl before ↦ outside.after (banks.current + k)
          (omega (
            arith,
            h,
            before,
            length-bank_body width values (generation_at a (banks.current + 1) + 1)
                (replaced width values a banks.current v n),
          ))
      | inr behind ↦ outside.before (banks.current + k) (omega (arith, h, behind))
    ]

    current_same : open_generation values c banks.current ≡ open_generation values a banks.current
    current_same = open_same width values c a banks.current banks.current untouched

    turn_old : (open_generation values c banks.other ≡ None)
        ⊎ (open_generation values c banks.other ≡ open_generation values a banks.other)
        → Shows width values at c (bank_value width values a banks.current)
    turn_old same = record {
      banks = banks;
      found = from_places c banks (kept (open_generation values a) (open_generation values c) at
          (at + bank_size width values) banks by_places current_same same);
      each = λ w below. bank_value_same width values c a banks.current banks.current w below untouched;
    }

    turn_new : is_open c banks.other ≡ true
        → HasBody banks.other (bank_body width values (generation_at a (banks.current + 1) + 1)
        (replaced width values a banks.current v n)) c
        → Shows width values at c (replaced width values a banks.current v n)
    turn_new gate has = record {
      banks = record { current = banks.other; other = banks.current };
      found = from_places c (record { current = banks.other; other = banks.current })
          (turned (open_generation values a) (open_generation values c) at (at + bank_size width values) banks by_places
          (generation_at a (banks.current + 1)) (current_same ∙ old_generation)
          (turned_open width values a banks.current banks.other v n few in_range fits above old_open c gate has));
      each = turned_value width values a banks.current banks.other v n few in_range fits above old_open c gate has;
    }

    turn_shows : IsGatedMoment banks.other (bank_body width values (generation_at a (banks.current + 1) + 1)
        (replaced width values a banks.current v n)) a c
        → IsRingMoment width values at a banks v n c
    turn_shows moment = record {
      size = outside.size;
      shows = elim (turn_moment width values a c banks.other (generation_at a (banks.current + 1) + 1)
          (replaced width values a banks.current v n) moment) [
            | inl none ↦ inl (turn_old (inl none))
            | inr rest ↦ elim rest [
              | inl same ↦ inl (turn_old (inr same))
              | inr new ↦ inr (turn_new new.0 new.1)
            ]
          ];
    }

  -- ---- both
  moment_by : (free : Option ℕ) → first_shut width a 16 (records_place values banks.current) ≡ free → (c : List ℕ)
      → Reached (writes_by width values a v n banks free) a c → IsRingMoment width values at a banks v n c
  moment_by (Some place) free c reached =
      let moment : IsGatedMoment place (record_body width v n) a c =
      gated_moment place false (record_body width v n) a c (sym (range place free).shut) (record_inside place free)
      reached in
      append_shows place free c moment.outside moment
  moment_by None free c reached =
      let moment : IsGatedMoment banks.other body a c =
      gated_moment banks.other (is_open a banks.other) body a c refl bank_inside reached in
      turn_shows c moment.outside moment

  pub ring_moment : (c : List ℕ) → Reached (writes_in width values a v n (Some banks)) a c
      → IsRingMoment width values at a banks v n c
  ring_moment c reached = moment_by (first_shut width a 16 (records_place values banks.current)) refl c reached

  whole_by : (free : Option ℕ) → first_shut width a 16 (records_place values banks.current) ≡ free
      → Shows width values at (written (writes_by width values a v n banks free) a)
      (replaced width values a banks.current v n)
  whole_by (Some place) free =
      let c : List ℕ = written (gated_writes place false (record_body width v n)) a in
      let moment : IsGatedMoment place (record_body width v n) a c =
      gated_moment place false (record_body width v n) a c (sym (range place free).shut) (record_inside place free)
      (reached_whole (gated_writes place false (record_body width v n)) a) in
      append_opened place free c moment.outside (gated_whole place false (record_body width v n) a
      (record_inside place free))
  whole_by None free =
      let c : List ℕ = written (gated_writes banks.other (is_open a banks.other) body) a in
      let moment : IsGatedMoment banks.other body a c =
      gated_moment banks.other (is_open a banks.other) body a c refl bank_inside
      (reached_whole (gated_writes banks.other (is_open a banks.other) body) a) in
      let over : IsOpenOver banks.other body c = gated_whole banks.other (is_open a banks.other) body a bank_inside in
      turn_new c moment.outside over.open_gate over.holds

  pub ring_whole : Shows width values at (written (writes_in width values a v n (Some banks)) a)
      (replaced width values a banks.current v n)
  ring_whole = whole_by (first_shut width a 16 (records_place values banks.current)) refl

  few_by : (free : Option ℕ) → length (writes_by width values a v n banks free) ≤ 3
  few_by (Some place) = gated_few place false (record_body width v n)
  few_by None = gated_few banks.other (is_open a banks.other) body

  pub ring_few : length (writes_in width values a v n (Some banks)) ≤ 3
  ring_few = few_by (first_shut width a 16 (records_place values banks.current))

  fit_by : (free : Option ℕ) → first_shut width a 16 (records_place values banks.current) ≡ free
      → All (FitsIn (length a)) (writes_by width values a v n banks free)
  fit_by (Some place) free =
      gated_fit place (length a) false (record_body width v n) (record_inside place free)
      (omega (arith, length-record_body width v n))
  fit_by None free =
      gated_fit banks.other (length a) (is_open a banks.other) body bank_inside
      (omega (
        arith,
        length-bank_body width values (generation_at a (banks.current + 1) + 1)
            (replaced width values a banks.current v n),
      ))

  pub ring_fit : All (FitsIn (length a)) (writes_in width values a v n (Some banks))
  ring_fit = fit_by (first_shut width a 16 (records_place values banks.current)) refl
