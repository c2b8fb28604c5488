-- Raw frames: the octets of a standard or an extended frame, and their check octet.
use Rattle.std.proofs.Common.{◌≡◌, ◌≢◌, ℕ, suc, ◌+◌, ◌-◌, ◌*◌, ◌/◌, ◌%◌, ◌<◌, ◌≤◌, Bool, true, false, cond, eqb, ltb, List, [], ◌∷◌, ◌++◌, length, get_or, take, drop, None, ◌⊎◌, inl, inr, ◌||◌, refl, sym, ap, ◌∙◌, arith, length-append}
use Rattle.std.proofs.lemmas.Bool.{cases_lt, eqb-false, eqb-true, ltb-false, le-ltb, ne_eqb, eq-eqb}
use Rattle.std.proofs.lemmas.List.{length-drop, length-take, get_or-take, get_or_past, take_at, take_all, drop-take}
use Rattle.std.proofs.Math.Seq.{take-suc, get_or-append_seam}
use Rattle.cemi_frames.specs.declared.frame.Code.TheVariants.{Busmon}
use Rattle.cemi_frames.specs.declared.frame.NotFrame.TheVariants as faults
use Rattle.cemi_frames.specs.Fields.{Fields, long_octets, standard_octets, check_octet, checked}
use Rattle.cemi_frames.specs.Frames.{Telegram, said_by, repeat_mark, AreOctets}
use Rattle.cemi_frames.specs.Faults.{first_of, opposite, differ, check_test, standard_tests, extended_tests, is_standard, is_extended, raw_tests}
use Rattle.cemi_frames.specs.Reading.{long_fields, standard_fields, standard_frame, extended_frame, raw_frame}
use Rattle.cemi_frames.proofs.Passing.{passed, opposite-false, differ-false}
use Rattle.cemi_frames.proofs.Long.{long_octets-fields, said_by-long}

-- ---- the check octet

abbrev pub front_of : List ℕ → List ℕ
front_of raw = take (length raw - 1) raw

front-last : (raw : List ℕ) → 0 < length raw → raw ≡ front_of raw ++ get_or raw (length raw - 1) 0 ∷ []
front-last raw some =
    let one_more : suc (length raw - 1) ≡ length raw = omega arith in
    sym (take_all (suc (length raw - 1)) raw (omega arith)) ∙ take-suc raw (length raw - 1) 0 (omega arith)

check-passed : (raw : List ℕ) → 0 < length raw → first_of (check_test raw ∷ []) ≡ None → raw ≡ checked (front_of raw)
check-passed raw some none =
    let test = passed (differ (get_or raw (length raw - 1) 0) (check_octet (front_of raw)))
    (faults.Check (get_or raw (length raw - 1) 0) (check_octet (front_of raw))) None none in
    front-last raw some ∙ ap (λ (o : ℕ). front_of raw ++ o ∷ []) (differ-false _ _ test.0)

check-octets : (front : List ℕ) → first_of (check_test (checked front) ∷ []) ≡ None
check-octets front =
    let size : length (checked front) - 1 ≡ length front =
    omega (arith, length-append front (check_octet front ∷ [])) in
    let said : get_or (checked front) (length (checked front) - 1) 0 ≡ check_octet front =
    rw size (get_or-append_seam front (check_octet front) [] 0) in
    let before : take (length (checked front) - 1) (checked front) ≡ front =
    take_at front (check_octet front ∷ []) (length (checked front) - 1) (sym size) in
    let same : eqb (get_or (checked front) (length (checked front) - 1) 0)
    (check_octet (take (length (checked front) - 1) (checked front))) ≡ true =
    eq-eqb _ _ (said ∙ sym (ap check_octet before)) in
    rw same refl

front-size : (raw : List ℕ) → length (front_of raw) ≡ length raw - 1
front-size raw = omega (arith, length-take (length raw - 1) raw)

front-at : (raw : List ℕ) (i : ℕ) → i + 1 < length raw → get_or (front_of raw) i 0 ≡ get_or raw i 0
front-at raw i within = get_or-take (length raw - 1) raw i 0 (omega arith)

front-octets : (raw : List ℕ) → AreOctets raw → AreOctets (front_of raw)
front-octets raw octets i =
    elim (cases_lt i (length raw - 1)) [
      | inl within ↦ rw (get_or-take (length raw - 1) raw i 0 within) (octets i)
      | inr past ↦ rw (get_or_past (front_of raw) i 0 (omega (arith, front-size raw))) (omega arith)
    ]

-- ---- an extended frame

pub extended-octets : (whole : ℕ) (raw : List ℕ) → AreOctets raw → first_of (extended_tests whole raw) ≡ None
    → (raw ≡ checked (long_octets (long_fields raw (take (length raw - 8) (drop 7 raw)))))
    × (0 < length (take (length raw - 8) (drop 7 raw))) × (length (take (length raw - 8) (drop 7 raw)) ≤ 255)
unfolding extended_tests
extended-octets whole raw octets none =
    let short = passed (ltb (length raw) 7) (faults.Short whole) _ none in
    let escape = passed (eqb (get_or raw 6 0) 255) faults.Escape _ short.1 in
    let size = passed (differ (length raw - 7) (get_or raw 6 0 + 2))
    (faults.Length (get_or raw 6 0 + 2) (length raw - 7)) (first_of (check_test raw ∷ [])) escape.1 in
    let long : 7 ≤ length raw = ltb-false _ _ short.0 in
    let found : length raw - 7 ≡ get_or raw 6 0 + 2 = differ-false _ _ size.0 in
    let no_escape : get_or raw 6 0 ≢ 255 = eqb-false _ _ escape.0 in
    let fs = front-size raw in
    let at6 = front-at raw 6 (omega arith) in
    let byte6 = octets 6 in
    let fields : front_of raw ≡ long_octets (long_fields (front_of raw) (drop 7 (front_of raw))) =
    long_octets-fields (front_of raw) (front-octets raw octets) (omega arith) (omega arith) in
    let content : drop 7 (front_of raw) ≡ take (length raw - 8) (drop 7 raw) =
    let size_is : length raw - 1 ≡ 7 + (length raw - 8) = omega arith in ap (λ (k : ℕ). drop 7 (take k raw)) size_is
    ∙ drop-take 7 (length raw - 8) raw in
    let same : long_fields (front_of raw) (drop 7 (front_of raw))
    ≡ long_fields raw (take (length raw - 8) (drop 7 raw)) =
    rw (
      front-at raw 0 (omega arith),
      front-at raw 1 (omega arith),
      front-at raw 2 (omega arith),
      front-at raw 3
          (omega arith),
      front-at raw 4 (omega arith),
      front-at raw 5 (omega arith),
      content,
    ) refl in (
      check-passed raw (omega arith) size.1 ∙ ap checked (fields ∙ ap long_octets same),
      omega
          (arith, length-take (length raw - 8) (drop 7 raw), length-drop 7 raw),
      omega
          (arith, length-take (length raw - 8) (drop 7 raw), length-drop 7 raw),
    )

pub octets-extended : (whole : ℕ) (f : Fields) → 0 < length f.content → length f.content ≤ 255
    → (first_of (extended_tests whole (checked (long_octets f))) ≡ None)
    × (extended_frame (checked (long_octets f)) ≡ said_by Busmon (repeat_mark f.control) f)
unfolding extended_tests long_octets
octets-extended whole f some fits =
    let after_size : length (f.content ++ check_octet (long_octets f) ∷ []) ≡ length f.content + 1 =
    omega (arith, length-append f.content (check_octet (long_octets f) ∷ [])) in
    let long : ltb (suc (suc (suc (suc (suc (suc (suc (length (f.content ++ check_octet (long_octets f) ∷ []))))))))) 7
    ≡ false = le-ltb _ _ (omega arith) in
    let no_escape : eqb (length f.content - 1) 255 ≡ false = ne_eqb _ _ (λ e. omega arith) in
    let size : eqb (suc (suc (suc (suc (suc (suc (suc (length
    (f.content ++ check_octet (long_octets f) ∷ [])))))))) - 7) (length f.content - 1 + 2)
    ≡ true = eq-eqb _ _ (omega arith) in
    let content : take (suc (suc (suc (suc (suc (suc (suc (length
    (f.content ++ check_octet (long_octets f) ∷ [])))))))) - 8) (f.content ++ check_octet (long_octets f) ∷ [])
    ≡ f.content = take_at f.content (check_octet (long_octets f) ∷ []) _ (omega arith) in (
      rw (long, no_escape, size) (check-octets (long_octets f)),
      rw content (said_by-long Busmon (repeat_mark f.control) f
          ((length f.content - 1) ∷ (f.content ++ check_octet (long_octets f) ∷ []))),
    )

-- ---- a standard frame

six_octets : (raw : List ℕ) → 6 ≤ length raw → raw ≡ get_or raw 0 0 ∷ get_or raw 1 0 ∷ get_or raw 2 0 ∷ get_or raw 3 0
    ∷ get_or raw 4 0 ∷ get_or raw 5 0 ∷ drop 6 raw
six_octets [] long = absurd (omega arith)
six_octets (a ∷ []) long = absurd (omega arith)
six_octets (a ∷ b ∷ []) long = absurd (omega arith)
six_octets (a ∷ b ∷ c ∷ []) long = absurd (omega arith)
six_octets (a ∷ b ∷ c ∷ d ∷ []) long = absurd (omega arith)
six_octets (a ∷ b ∷ c ∷ d ∷ e ∷ []) long = absurd (omega arith)
six_octets (a ∷ b ∷ c ∷ d ∷ e ∷ f ∷ rest) long = refl

standard_octets-fields : (front : List ℕ) → AreOctets front → 6 ≤ length front
    → length front ≡ get_or front 5 0 % 16 + 7 → front ≡ standard_octets (standard_fields front (drop 6 front))
unfolding standard_octets
standard_octets-fields front octets long size =
    let b2 = octets 2 in
    let b4 = octets 4 in
    let s1 : (get_or front 1 0 * 256 + get_or front 2 0) / 256 ≡ get_or front 1 0 = omega arith in
    let s0 : (get_or front 1 0 * 256 + get_or front 2 0) % 256 ≡ get_or front 2 0 = omega arith in
    let d1 : (get_or front 3 0 * 256 + get_or front 4 0) / 256 ≡ get_or front 3 0 = omega arith in
    let d0 : (get_or front 3 0 * 256 + get_or front 4 0) % 256 ≡ get_or front 4 0 = omega arith in
    let shared : get_or front 5 0 / 16 * 16 + (length (drop 6 front) - 1) ≡ get_or front 5 0 =
    omega (arith, length-drop 6 front) in
    six_octets front long ∙ rw (s1, s0, d1, d0, shared) refl

pub standard-octets : (whole : ℕ) (raw : List ℕ) → AreOctets raw → first_of (standard_tests whole raw) ≡ None
    → (raw ≡ checked (standard_octets (standard_fields raw (take (length raw - 7) (drop 6 raw)))))
    × (0 < length (take (length raw - 7) (drop 6 raw))) × (length (take (length raw - 7) (drop 6 raw)) ≤ 16)
unfolding standard_tests
standard-octets whole raw octets none =
    let short = passed (ltb (length raw) 6) (faults.Short whole) _ none in
    let size = passed (differ (length raw - 6) (get_or raw 5 0 % 16 + 2))
    (faults.Length (get_or raw 5 0 % 16 + 2) (length raw - 6)) (first_of (check_test raw ∷ [])) short.1 in
    let long : 6 ≤ length raw = ltb-false _ _ short.0 in
    let found : length raw - 6 ≡ get_or raw 5 0 % 16 + 2 = differ-false _ _ size.0 in
    let fs = front-size raw in
    let at5 = front-at raw 5 (omega arith) in
    let fields : front_of raw ≡ standard_octets (standard_fields (front_of raw) (drop 6 (front_of raw))) =
    standard_octets-fields (front_of raw) (front-octets raw octets) (omega arith) (omega arith) in
    let content : drop 6 (front_of raw) ≡ take (length raw - 7) (drop 6 raw) =
    let size_is : length raw - 1 ≡ 6 + (length raw - 7) = omega arith in ap (λ (k : ℕ). drop 6 (take k raw)) size_is
    ∙ drop-take 6 (length raw - 7) raw in
    let same : standard_fields (front_of raw) (drop 6 (front_of raw))
    ≡ standard_fields raw (take (length raw - 7) (drop 6 raw)) =
    rw (
      front-at raw 0 (omega arith),
      front-at raw 1 (omega arith),
      front-at raw 2 (omega arith),
      front-at raw 3
          (omega arith),
      front-at raw 4 (omega arith),
      front-at raw 5 (omega arith),
      content,
    ) refl in (
      check-passed raw (omega arith) size.1 ∙ ap checked (fields ∙ ap standard_octets same),
      omega
          (arith, length-take (length raw - 7) (drop 6 raw), length-drop 6 raw),
      omega
          (arith, length-take (length raw - 7) (drop 6 raw), length-drop 6 raw),
    )

pub octets-standard : (whole : ℕ) (f : Fields) → f.control2 % 16 ≡ 0 → 0 < length f.content → length f.content ≤ 16
    → (first_of (standard_tests whole (checked (standard_octets f))) ≡ None)
    × (standard_frame (checked (standard_octets f)) ≡ said_by Busmon (repeat_mark f.control) f)
unfolding standard_tests standard_octets
octets-standard whole f low_bits some fits =
    let after_size : length (f.content ++ check_octet (standard_octets f) ∷ []) ≡ length f.content + 1 =
    omega (arith, length-append f.content (check_octet (standard_octets f) ∷ [])) in
    let long : ltb (suc (suc (suc (suc (suc (suc (length (f.content ++ check_octet (standard_octets f) ∷ [])))))))) 6
    ≡ false = le-ltb _ _ (omega arith) in
    let size : eqb (suc (suc (suc (suc (suc (suc (length (f.content ++ check_octet (standard_octets f) ∷ []))))))) - 6)
    ((f.control2 + (length f.content - 1)) % 16 + 2) ≡ true = eq-eqb _ _ (omega arith) in
    let content : take (suc (suc (suc (suc (suc (suc (length
    (f.content ++ check_octet (standard_octets f) ∷ []))))))) - 7)
    (f.content ++ check_octet (standard_octets f) ∷ []) ≡ f.content =
    take_at f.content (check_octet (standard_octets f) ∷ []) _ (omega arith) in
    let upper : (f.control2 + (length f.content - 1)) / 16 * 16 ≡ f.control2 = omega arith in
    let source : f.source / 256 * 256 + f.source % 256 ≡ f.source = omega arith in
    let destination : f.destination / 256 * 256 + f.destination % 256 ≡ f.destination = omega arith in
    (rw (long, size) (check-octets (standard_octets f)), rw (content, upper, source, destination) refl)

-- ---- either format

pub record IsRawOf (format : ℕ) (raw : List ℕ) (none : Type 0) (frame : Telegram) : Type 0 where
  pub format_is : get_or raw 0 0 / 64 ≡ format
  pub tests : none
  pub frame_is : raw_frame raw ≡ frame

pub raw_tests-none : (whole : ℕ) (raw : List ℕ) → first_of (raw_tests whole raw) ≡ None
    → IsRawOf 2 raw (first_of (standard_tests whole raw) ≡ None) (standard_frame raw)
    ⊎ IsRawOf 0 raw (first_of (extended_tests whole raw) ≡ None) (extended_frame raw)
unfolding raw_tests raw_frame
raw_tests-none whole raw none =
    let tail = first_of (cond (eqb (get_or raw 0 0 / 64) 2) (standard_tests whole raw) (extended_tests whole raw)) in
    let empty = passed (eqb (length raw) 0) (faults.Short whole) _ none in
    let alone = passed (eqb (length raw) 1) (faults.Acknowledge (get_or raw 0 0)) _ empty.1 in
    let format = passed (opposite (is_standard (get_or raw 0 0) || is_extended (get_or raw 0 0)))
    (faults.Format (get_or raw 0 0)) (first_of (cond (is_standard (get_or raw 0 0)) (standard_tests whole raw)
    (extended_tests whole raw))) alone.1 in
    by (is_standard (get_or raw 0 0)) refl (opposite-false _ format.0) format.1
  where
    by : (b : Bool) → is_standard (get_or raw 0 0) ≡ b → (b || is_extended (get_or raw 0 0)) ≡ true
        → first_of (cond b (standard_tests whole raw) (extended_tests whole raw)) ≡ None
        → IsRawOf 2 raw (first_of (standard_tests whole raw) ≡ None) (standard_frame raw)
        ⊎ IsRawOf 0 raw (first_of (extended_tests whole raw) ≡ None) (extended_frame raw)
    by true is known rest = inl (record { format_is = eqb-true _ _ is; tests = rest; frame_is = rw is refl })
    by false is known rest = inr (record { format_is = eqb-true _ _ known; tests = rest; frame_is = rw is refl })

pub raw_tests-standard : (whole : ℕ) (raw : List ℕ) → 2 ≤ length raw → get_or raw 0 0 / 64 ≡ 2
    → first_of (standard_tests whole raw) ≡ None → (first_of (raw_tests whole raw) ≡ None)
    × (raw_frame raw ≡ standard_frame raw)
unfolding raw_tests raw_frame
raw_tests-standard whole raw long format none =
    let some : eqb (length raw) 0 ≡ false = ne_eqb _ _ (λ e. omega arith) in
    let several : eqb (length raw) 1 ≡ false = ne_eqb _ _ (λ e. omega arith) in
    let is : eqb (get_or raw 0 0 / 64) 2 ≡ true = eq-eqb _ _ format in
    (rw (some, several, is) none, rw is refl)

pub raw_tests-extended : (whole : ℕ) (raw : List ℕ) → 2 ≤ length raw → get_or raw 0 0 / 64 ≡ 0
    → first_of (extended_tests whole raw) ≡ None → (first_of (raw_tests whole raw) ≡ None)
    × (raw_frame raw ≡ extended_frame raw)
unfolding raw_tests raw_frame
raw_tests-extended whole raw long format none =
    let some : eqb (length raw) 0 ≡ false = ne_eqb _ _ (λ e. omega arith) in
    let several : eqb (length raw) 1 ≡ false = ne_eqb _ _ (λ e. omega arith) in
    let is_not : eqb (get_or raw 0 0 / 64) 2 ≡ false = ne_eqb _ _ (λ e. omega arith) in
    let is : eqb (get_or raw 0 0 / 64) 0 ≡ true = eq-eqb _ _ format in
    (rw (some, several, is_not, is) none, rw is_not refl)
