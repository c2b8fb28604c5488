-- The head of a message: its code, and additional information whose rows fit.
use Rattle.std.proofs.Common.{◌≡◌, ℕ, zero, suc, ◌+◌, ◌<◌, ◌≤◌, Bool, true, false, cond, eqb, ltb, List, [], ◌∷◌, ◌++◌, length, get_or, take, drop, Option, Some, None, refl, sym, ap, ◌∙◌, arith, append_assoc, length-append}
use Rattle.std.specs.Prelude.{is_some, unwrap_or}
use Rattle.std.specs.List.{flat_map}
use Rattle.std.proofs.lemmas.Bool.{ne_eqb, ltb-true, ltb-false, le-ltb}
use Rattle.std.proofs.lemmas.List.{length-drop, length-take, take-append-drop, take_at, drop_at, drop-drop}
use Rattle.std.proofs.lemmas.List.Concat.{flat_map-cons}
use Rattle.cemi_frames.specs.declared.frame.NotFrame.TheVariants as faults
use Rattle.cemi_frames.specs.Fields.{InfoRow, row_octets, info_octets, message}
use Rattle.cemi_frames.specs.Faults.{first_of, opposite, misfit, info_misfit, body_place, body_of, is_code, head_tests}
use Rattle.cemi_frames.specs.Law.{IsFirstMisfit, info_of}
use Rattle.cemi_frames.proofs.Passing.{passed, opposite-false}

-- Rows fit, one behind the other.
pub misfit-rows : (n place : ℕ) (rows : List InfoRow) → length (flat_map row_octets rows) ≤ n
    → misfit n place (flat_map row_octets rows) ≡ None
unfolding misfit
misfit-rows zero place rows enough = refl
misfit-rows (suc n) place [] enough = refl
misfit-rows (suc n) place (row ∷ rows) enough =
    let rest : drop (length row.content) (row.content ++ flat_map row_octets rows) ≡ flat_map row_octets rows =
    drop_at row.content (flat_map row_octets rows) (length row.content) refl in
    let cons : flat_map row_octets (row ∷ rows) ≡ row.kind ∷ length row.content
    ∷ (row.content ++ flat_map row_octets rows) = flat_map-cons row_octets row rows in
    let fits : ltb (length (row.content ++ flat_map row_octets rows)) (length row.content) ≡ false =
    le-ltb _ _ (omega (arith, length-append row.content (flat_map row_octets rows))) in
    ap (misfit (suc n) place) cons ∙ rw (fits, rest) (misfit-rows n (place + 2 + length row.content) rows
    (omega (arith, length-append row.content (flat_map row_octets rows), ap length cons)))

-- Where each row fits, the octets are rows.
pub rows-misfit : (n place : ℕ) (info : List ℕ) → length info ≤ n → misfit n place info ≡ None → (rows : List InfoRow)
    × (info ≡ flat_map row_octets rows)
unfolding misfit
rows-misfit zero place [] enough fit = ([], refl)
rows-misfit zero place (kind ∷ info) enough fit = absurd (omega arith)
rows-misfit (suc n) place [] enough fit = ([], refl)
rows-misfit (suc n) place (kind ∷ []) enough fit = absurd cc
rows-misfit (suc n) place (kind ∷ size ∷ rest) enough fit =
    by (ltb (length rest) size) refl (rows-misfit n (place + 2 + size) (drop size rest)
    (omega (arith, length-drop size rest))) fit
  where
    by : (b : Bool) → ltb (length rest) size ≡ b → (misfit n (place + 2 + size) (drop size rest) ≡ None
        → (rows : List InfoRow) × (drop size rest ≡ flat_map row_octets rows))
        → cond b (Some place) (misfit n (place + 2 + size) (drop size rest)) ≡ None → (rows : List InfoRow)
        × (kind ∷ size ∷ rest ≡ flat_map row_octets rows)
    by true is later none = absurd cc
    by false is later none =
        let more = later none in
        let long : size ≤ length rest = ltb-false _ _ is in
        let size_is : length (take size rest) ≡ size = omega (arith, length-take size rest) in
        let row : InfoRow = record { kind = kind; content = take size rest } in
        let whole : take size rest ++ flat_map row_octets more.0 ≡ rest =
        ap (λ (t : List ℕ). take size rest ++ t) (sym more.1) ∙ take-append-drop size rest in
        (row ∷ more.0, sym (flat_map-cons row_octets row more.0 ∙ rw (size_is, whole) refl))

-- A row that does not fit stands behind rows that do.
IsFirstMisfit-misfit : (n start place : ℕ) (info : List ℕ) → misfit n start info ≡ Some place
    → IsFirstMisfit info start place
unfolding misfit
IsFirstMisfit-misfit zero start place info found = absurd cc
IsFirstMisfit-misfit (suc n) start place [] found = absurd cc
IsFirstMisfit-misfit (suc n) start place (kind ∷ []) found =
    let same : start ≡ place = cc in
    record {
      rows = [];
      rest = kind ∷ [];
      parts = refl;
      place_is = omega arith;
      some = omega arith;
      no_row = λ row more is. let sizes = ap length is in absurd (omega arith);
    }
IsFirstMisfit-misfit (suc n) start place (kind ∷ size ∷ rest) found =
    by (ltb (length rest) size) refl (IsFirstMisfit-misfit n (start + 2 + size) place (drop size rest)) found
  where
    too_long : length rest < size → (row : InfoRow) (more : List ℕ) → kind ∷ size ∷ rest ≡ row_octets row ++ more → ⊥
    too_long short row more is =
        let size_is : size ≡ length row.content = cc in
        let rest_is : rest ≡ row.content ++ more = cc in
        omega (arith, ap length rest_is, length-append row.content more)

    by : (b : Bool) → ltb (length rest) size ≡ b → (misfit n (start + 2 + size) (drop size rest) ≡ Some place
        → IsFirstMisfit (drop size rest) (start + 2 + size) place)
        → cond b (Some start) (misfit n (start + 2 + size) (drop size rest)) ≡ Some place
        → IsFirstMisfit (kind ∷ size ∷ rest) start place
    by true is later found =
        let same : start ≡ place = cc in
        record {
          rows = [];
          rest = kind ∷ size ∷ rest;
          parts = refl;
          place_is = omega arith;
          some = omega arith;
          no_row = too_long (ltb-true _ _ is);
        }
    by false is later found =
        let behind = later found in
        let long : size ≤ length rest = ltb-false _ _ is in
        let size_is : length (take size rest) ≡ size = omega (arith, length-take size rest) in
        let row : InfoRow = record { kind = kind; content = take size rest } in
        let whole : rest ≡ take size rest ++ (flat_map row_octets behind.rows ++ behind.rest) =
        sym (take-append-drop size rest) ∙ ap (λ (t : List ℕ). take size rest ++ t) behind.parts in
        let cons : flat_map row_octets (row ∷ behind.rows) ≡ kind ∷ size
        ∷ (take size rest ++ flat_map row_octets behind.rows) = flat_map-cons row_octets row behind.rows
        ∙ rw size_is refl in
        record {
          rows = row ∷ behind.rows;
          rest = behind.rest;
          parts = ap (λ (t : List ℕ). kind ∷ size ∷ t) (whole ∙ sym
              (append_assoc (take size rest) (flat_map row_octets behind.rows) behind.rest))
              ∙ ap (λ (t : List ℕ). t ++ behind.rest) (sym cons);
          place_is = omega (
            arith,
            behind.place_is,
            ap length cons,
            length-append (take size rest)
                (flat_map row_octets behind.rows),
          );
          some = behind.some;
          no_row = behind.no_row;
        }

pub first_misfit : (octets : List ℕ) (place : ℕ) → info_misfit octets ≡ Some place
    → IsFirstMisfit (info_of octets) 2 place
first_misfit octets place found = IsFirstMisfit-misfit (get_or octets 1 0) 2 place (info_of octets) found

-- ---- the tests of the head

pub record HeadOf (octets : List ℕ) (code : ℕ) (body : List ℕ) : Type 0 where
  pub tests : first_of (head_tests octets) ≡ None
  pub code_is : get_or octets 0 0 ≡ code
  pub body_is : body_of octets ≡ body

pub HeadOf-message : (code : ℕ) (rows : List InfoRow) (body : List ℕ) → is_code code ≡ true
    → HeadOf (message code rows body) code body
unfolding message info_octets head_tests
HeadOf-message code rows body known =
    let long : ltb (length (code ∷ length (flat_map row_octets rows) ∷ (flat_map row_octets rows ++ body)))
    (2 + length (flat_map row_octets rows)) ≡ false = le-ltb _ _
    (omega (arith, length-append (flat_map row_octets rows) body)) in
    let some : eqb (length (code ∷ length (flat_map row_octets rows) ∷ (flat_map row_octets rows ++ body))) 0 ≡ false =
    ne_eqb _ _ (λ e. omega arith) in
    let several : eqb (length (code ∷ length (flat_map row_octets rows) ∷ (flat_map row_octets rows ++ body))) 1
    ≡ false = ne_eqb _ _ (λ e. omega arith) in
    let information : take (length (flat_map row_octets rows)) (flat_map row_octets rows ++ body)
    ≡ flat_map row_octets rows = take_at (flat_map row_octets rows) body (length (flat_map row_octets rows)) refl in
    let fits : misfit (length (flat_map row_octets rows)) 2 (take (length (flat_map row_octets rows))
    (flat_map row_octets rows ++ body)) ≡ None = rw information
    (misfit-rows (length (flat_map row_octets rows)) 2 rows (omega arith)) in
    record {
      tests = rw (some, known, several, long, fits) refl;
      code_is = refl;
      body_is = behind (length (flat_map row_octets rows)) (flat_map row_octets rows) refl;
    }
  where
    behind : (n : ℕ) (info : List ℕ) → length info ≡ n → drop (2 + n) (code ∷ n ∷ (info ++ body)) ≡ body
    behind n info is = let two_more : 2 + n ≡ suc (suc n) = omega arith in
        ap (λ (k : ℕ). drop k (code ∷ n ∷ (info ++ body))) two_more ∙ drop_at info body n is

two_octets : (octets : List ℕ) → 2 ≤ length octets → octets ≡ get_or octets 0 0 ∷ get_or octets 1 0 ∷ drop 2 octets
two_octets [] long = absurd (omega arith)
two_octets (first ∷ []) long = absurd (omega arith)
two_octets (first ∷ second ∷ rest) long = refl

-- Where the head has no fault, the octets are a message.
pub message-head : (octets : List ℕ) → first_of (head_tests octets) ≡ None → (is_code (get_or octets 0 0) ≡ true)
    × ((rows : List InfoRow) × (octets ≡ message (get_or octets 0 0) rows (body_of octets)))
unfolding message info_octets head_tests
message-head octets none =
    let empty = passed (eqb (length octets) 0) (faults.Short 0) _ none in
    let code = passed (opposite (is_code (get_or octets 0 0))) (faults.Code (get_or octets 0 0)) _ empty.1 in
    let alone = passed (eqb (length octets) 1) (faults.Short 1) _ code.1 in
    let short = passed (ltb (length octets) (body_place octets)) (faults.Short (length octets)) _ alone.1 in
    let fit = passed (is_some (info_misfit octets)) (faults.Info (unwrap_or (info_misfit octets) 0)) None short.1 in
    let long : 2 + get_or octets 1 0 ≤ length octets = ltb-false _ _ short.0 in
    let size : length (take (get_or octets 1 0) (drop 2 octets)) ≡ get_or octets 1 0 =
    omega (arith, length-take (get_or octets 1 0) (drop 2 octets), length-drop 2 octets) in
    let rows = rows-misfit (get_or octets 1 0) 2 (take (get_or octets 1 0) (drop 2 octets)) (omega arith)
    (is_some-false (info_misfit octets) fit.0) in
    let rest : drop 2 octets ≡ take (get_or octets 1 0) (drop 2 octets) ++ body_of octets =
    sym (take-append-drop (get_or octets 1 0) (drop 2 octets))
    ∙ ap (λ (t : List ℕ). take (get_or octets 1 0) (drop 2 octets) ++ t) (drop-drop (get_or octets 1 0) 2 octets) in
    let spelled : octets ≡ get_or octets 0 0 ∷ length (flat_map row_octets rows.0)
    ∷ (flat_map row_octets rows.0 ++ body_of octets) =
    two_octets octets (omega arith)
    ∙ ap (λ (t : List ℕ). get_or octets 0 0 ∷ get_or octets 1 0 ∷ t) rest
    ∙ ap (λ (t : List ℕ). get_or octets 0 0 ∷ get_or octets 1 0 ∷ (t ++ body_of octets)) rows.1
    ∙ ap (λ (k : ℕ). get_or octets 0 0 ∷ k ∷ (flat_map row_octets rows.0 ++ body_of octets))
    (sym size ∙ ap length rows.1) in
    (opposite-false (is_code (get_or octets 0 0)) code.0, (rows.0, spelled))
  where
    is_some-false : (o : Option ℕ) → is_some o ≡ false → o ≡ None
    is_some-false None e = refl
    is_some-false (Some x) e = absurd cc
