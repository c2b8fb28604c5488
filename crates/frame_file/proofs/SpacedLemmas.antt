-- A document says the same where other white space stands before its root, as much of it.
use Rattle.std.proofs.Common.{◌≡◌, ℕ, zero, suc, ◌+◌, ◌-◌, ◌<◌, ◌==◌, ◌⊎◌, inl, inr, nat_lt, Bool, true, false, cond, List, [], ◌∷◌, ◌++◌, length, take, replicate, Some, refl, sym, ap, ◌∙◌, add-one, length-append, arith}
use Rattle.std.specs.List.{list_all}
use Rattle.std.specs.Str.{is_utf8, chars}
use Rattle.std.specs.Str.Lossy.{utf8_valid_len, valid_len_up_to}
use Rattle.std.proofs.lemmas.Bool.Decides.{nat_tests}
use Rattle.std.proofs.lemmas.List.{length-replicate}
use Rattle.tag_text.specs.declared.tag.TagFault.TheVariants as fault
use Rattle.frame_file.specs.declared.fault.RecordFault.TheVariants as refused
use Rattle.frame_file.specs.Lists.{refused_by}
use Rattle.tag_text.specs.Octets.{is_blank, after_blanks, after_mark}
use Rattle.tag_text.specs.Pieces.{piece_at, instruction_at, comment_at, text_at}
use Rattle.tag_text.specs.Document.{Step, Goes, step, left_within, left_of, left_after, start_of, outcome_of}
use Rattle.frame_file.specs.Logs.{most_logged, log_of, entries_of}
use Rattle.frame_file.specs.Lead.{mark_if, MarginIs, may_begin, margin_text}
use Rattle.frame_file.specs.declared.margin.Margin.{Margin}
use Rattle.frame_file.specs.declared.margin.Margin.TheVariants as margin
use Rattle.frame_file.proofs.MarginLemmas.{both, no_blank, blanks_passed, unmarked, marked}

IsBlank : ℕ → Type 0
IsBlank octet = (octet ≡ 32) ⊎ ((octet ≡ 9) ⊎ ((octet ≡ 13) ⊎ (octet ≡ 10)))

which : (octet : ℕ) → is_blank octet ≡ true → IsBlank octet
unfolding IsBlank
which octet e = by (octet == 32) (octet == 9) (octet == 13) (octet == 10) refl refl refl refl e where
  by : (a b c d : Bool) → (octet == 32) ≡ a → (octet == 9) ≡ b → (octet == 13) ≡ c → (octet == 10) ≡ d
      → is_blank octet ≡ true → IsBlank octet
  by true b c d ea eb ec ed e = inl (grind (arith, nat_tests, ea))
  by false true c d ea eb ec ed e = inr (inl (grind (arith, nat_tests, eb)))
  by false false true d ea eb ec ed e = inr (inr (inl (grind (arith, nat_tests, ec))))
  by false false false true ea eb ec ed e = inr (inr (inr (grind (arith, nat_tests, ed))))
  by false false false false ea eb ec ed e = absurd (grind (arith, nat_tests, ea, eb, ec, ed, e))

-- ---- UTF-8

utf8_32 : (text : List ℕ) → is_utf8 (32 ∷ text) ≡ is_utf8 text
unfolding is_utf8 chars lib.Utf8.encode
utf8_32 [] = refl
utf8_32 (first ∷ text) = refl

utf8_9 : (text : List ℕ) → is_utf8 (9 ∷ text) ≡ is_utf8 text
unfolding is_utf8 chars lib.Utf8.encode
utf8_9 [] = refl
utf8_9 (first ∷ text) = refl

utf8_13 : (text : List ℕ) → is_utf8 (13 ∷ text) ≡ is_utf8 text
unfolding is_utf8 chars lib.Utf8.encode
utf8_13 [] = refl
utf8_13 (first ∷ text) = refl

utf8_10 : (text : List ℕ) → is_utf8 (10 ∷ text) ≡ is_utf8 text
unfolding is_utf8 chars lib.Utf8.encode
utf8_10 [] = refl
utf8_10 (first ∷ text) = refl

utf8_after : (octet : ℕ) (text : List ℕ) → IsBlank octet → is_utf8 (octet ∷ text) ≡ is_utf8 text
unfolding IsBlank
utf8_after octet text (inl e) = ap (λ o. is_utf8 (o ∷ text)) e ∙ utf8_32 text
utf8_after octet text (inr (inl e)) = ap (λ o. is_utf8 (o ∷ text)) e ∙ utf8_9 text
utf8_after octet text (inr (inr (inl e))) = ap (λ o. is_utf8 (o ∷ text)) e ∙ utf8_13 text
utf8_after octet text (inr (inr (inr e))) = ap (λ o. is_utf8 (o ∷ text)) e ∙ utf8_10 text

mark_utf8 : (text : List ℕ) → is_utf8 (0xEF ∷ 0xBB ∷ 0xBF ∷ text) ≡ is_utf8 text
unfolding is_utf8 chars lib.Utf8.encode
mark_utf8 [] = refl
mark_utf8 (first ∷ text) = refl

-- two texts are UTF-8 up to the same places
SameFronts : List ℕ → List ℕ → Type 0
SameFronts xs ys = (n : ℕ) → is_utf8 (take n xs) ≡ is_utf8 (take n ys)

fronts_with : (x y : ℕ) (xs ys : List ℕ) → IsBlank x → IsBlank y → SameFronts xs ys → SameFronts (x ∷ xs) (y ∷ ys)
unfolding SameFronts
fronts_with x y xs ys bx by same zero = refl
fronts_with x y xs ys bx by same (suc n) =
    utf8_after x (take n xs) bx ∙ same n ∙ sym (utf8_after y (take n ys) by)

fronts_with_mark : (xs ys : List ℕ) → SameFronts xs ys
    → SameFronts (0xEF ∷ 0xBB ∷ 0xBF ∷ xs) (0xEF ∷ 0xBB ∷ 0xBF ∷ ys)
unfolding SameFronts
fronts_with_mark xs ys same zero = refl
fronts_with_mark xs ys same (suc zero) = refl
fronts_with_mark xs ys same (suc (suc zero)) = refl
fronts_with_mark xs ys same (suc (suc (suc n))) = mark_utf8 (take n xs) ∙ same n ∙ sym (mark_utf8 (take n ys))

valid_same : (xs ys : List ℕ) (n : ℕ) → SameFronts xs ys → valid_len_up_to xs n ≡ valid_len_up_to ys n
unfolding SameFronts
valid_same xs ys zero same = refl
valid_same xs ys (suc n) same =
    ap (λ b. cond b (suc n) (valid_len_up_to xs n)) (same (suc n))
    ∙ ap (λ m. cond (is_utf8 (take (suc n) ys)) (suc n) m) (valid_same xs ys n same)

spaces : ℕ → List ℕ
spaces n = replicate n 32

blank_fronts : (blanks rest : List ℕ) → list_all is_blank blanks ≡ true
    → SameFronts (blanks ++ rest) (spaces (length blanks) ++ rest)
unfolding SameFronts spaces
blank_fronts [] rest all n = refl
blank_fronts (octet ∷ blanks) rest all n =
    let each = both (is_blank octet) (list_all is_blank blanks) all in
    fronts_with octet 32 (blanks ++ rest) (spaces (length blanks) ++ rest) (which octet each.0) (which 32 refl)
    (blank_fronts blanks rest each.1) n

-- ---- the pieces

blank_step : (octet total : ℕ) (text : List ℕ) → IsBlank octet
    → step (record { total = total; opened = []; begun = false; rest = octet ∷ text })
    ≡ Goes [] (record { total = total; opened = []; begun = false; rest = after_blanks (octet ∷ text) })
unfolding IsBlank step piece_at instruction_at comment_at text_at after_mark
blank_step octet total text (inl e) = rw e refl
blank_step octet total text (inr (inl e)) = rw e refl
blank_step octet total text (inr (inr (inl e))) = rw e refl
blank_step octet total text (inr (inr (inr e))) = rw e refl

margin_left : (total : ℕ) (blanks rest : List ℕ) → 0 < length blanks → list_all is_blank blanks ≡ true
    → left_of (record { total = total; opened = []; begun = false; rest = blanks ++ 60 ∷ rest })
    ≡ left_within (length blanks + (length rest + 1))
    (record { total = total; opened = []; begun = false; rest = 60 ∷ rest })
unfolding left_of
margin_left total [] rest some all = absurd (omega (arith, some))
margin_left total (octet ∷ blanks) rest some all =
    let each = both (is_blank octet) (list_all is_blank blanks) all in
    let text = octet ∷ (blanks ++ 60 ∷ rest) in
    let passed : after_blanks text ≡ 60 ∷ rest =
    blanks_passed (octet ∷ blanks) (60 ∷ rest) all ∙ no_blank 60 rest refl in
    let one : step (record { total = total; opened = []; begun = false; rest = text })
    ≡ Goes [] (record { total = total; opened = []; begun = false; rest = 60 ∷ rest }) =
    blank_step octet total (blanks ++ 60 ∷ rest) (which octet each.0)
    ∙ ap (λ left. Goes [] (record { total = total; opened = []; begun = false; rest = left })) passed in
    let steps : length text ≡ length (octet ∷ blanks) + (length rest + 1) =
    omega (arith, length-append (octet ∷ blanks) (60 ∷ rest)) in
    rw (add-one (length text))
    (ap (λ (taken : Step). left_after taken (left_within (length text))) one
    ∙ ap (λ (n : ℕ). left_within n (record { total = total; opened = []; begun = false; rest = 60 ∷ rest })) steps)

length_spaces : (n : ℕ) → length (spaces n) ≡ n
unfolding spaces
length_spaces n = length-replicate n 32

all_spaces : (n : ℕ) → list_all is_blank (spaces n) ≡ true
unfolding spaces
all_spaces zero = refl
all_spaces (suc n) = all_spaces n

left_spaced : (total : ℕ) (blanks rest : List ℕ) → list_all is_blank blanks ≡ true
    → left_of (record { total = total; opened = []; begun = false; rest = blanks ++ 60 ∷ rest })
    ≡ left_of (record { total = total; opened = []; begun = false; rest = spaces (length blanks) ++ 60 ∷ rest })
unfolding spaces
left_spaced total [] rest all = refl
left_spaced total (octet ∷ blanks) rest all =
    let n = length (octet ∷ blanks) in
    margin_left total (octet ∷ blanks) rest (omega arith) all
    ∙ ap (λ m. left_within (m + (length rest + 1))
    (record { total = total; opened = []; begun = false; rest = 60 ∷ rest }))
    (sym (length_spaces n))
    ∙ sym (margin_left total (spaces n) rest (omega (arith, length_spaces n)) (all_spaces n))

-- ---- the whole document

same_outcome : (xs ys : List ℕ) → length xs ≡ length ys → SameFronts xs ys
    → left_of (start_of xs) ≡ left_of (start_of ys) → outcome_of xs ≡ outcome_of ys
unfolding outcome_of utf8_valid_len
same_outcome xs ys lengths fronts lefts =
    let valid : valid_len_up_to xs (length xs) ≡ valid_len_up_to ys (length ys) =
    valid_same xs ys (length xs) fronts ∙ ap (valid_len_up_to ys) lengths in
    λ i. cond (valid i == lengths i) (lefts i) (record { tags = []; fault = Some (fault.Utf8 (valid i)) })

same_log : (xs ys : List ℕ) → length xs ≡ length ys → outcome_of xs ≡ outcome_of ys → log_of xs ≡ log_of ys
same_log xs ys lengths outcomes =
    λ i. cond (nat_lt most_logged (lengths i)) (refused_by refused.LongFile) (entries_of (outcomes i))

spaced_lengths : (blanks rest : List ℕ) → length (blanks ++ rest) ≡ length (spaces (length blanks) ++ rest)
spaced_lengths blanks rest =
    omega (arith, length-append blanks rest, length-append (spaces (length blanks)) rest, length_spaces (length blanks))

plain_start : (octet : ℕ) (text : List ℕ) → is_blank octet ≡ true
    → start_of (octet ∷ text)
    ≡ record { total = length (octet ∷ text); opened = []; begun = false; rest = octet ∷ text }
plain_start octet text e =
    ap (λ rest. record { total = length (octet ∷ text); opened = []; begun = false; rest = rest })
    (unmarked octet text (grind (arith, nat_tests, e)))

plain_log : (front rest : List ℕ) → 0 < length front → list_all is_blank front ≡ true
    → log_of (front ++ 60 ∷ rest) ≡ log_of (spaces (length front) ++ 60 ∷ rest)
unfolding left_of spaces
plain_log [] rest some all = absurd (omega (arith, some))
plain_log (octet ∷ front) rest some all =
    let each = both (is_blank octet) (list_all is_blank front) all in
    let lengths = spaced_lengths (octet ∷ front) (60 ∷ rest) in
    same_log _ _ lengths (same_outcome _ _ lengths (blank_fronts (octet ∷ front) (60 ∷ rest) all)
    (ap left_of (plain_start octet (front ++ 60 ∷ rest) each.0)
    ∙ left_spaced (length ((octet ∷ front) ++ 60 ∷ rest)) (octet ∷ front) rest all
    ∙ ap (λ total. left_of (record {
      total = total;
      opened = [];
      begun = false;
      rest = spaces (length (octet ∷ front)) ++ 60 ∷ rest;
    })) lengths
    ∙ ap left_of (sym (plain_start 32 (spaces (length front) ++ 60 ∷ rest) refl))))

marked_log : (blanks rest : List ℕ) → list_all is_blank blanks ≡ true
    → log_of (mark_if true ++ (blanks ++ 60 ∷ rest)) ≡ log_of (mark_if true ++ (spaces (length blanks) ++ 60 ∷ rest))
marked_log blanks rest all =
    let lengths : length (mark_if true ++ (blanks ++ 60 ∷ rest))
    ≡ length (mark_if true ++ (spaces (length blanks) ++ 60 ∷ rest)) =
    ap (λ n. suc (suc (suc n))) (spaced_lengths blanks (60 ∷ rest)) in
    same_log _ _ lengths (same_outcome _ _ lengths (fronts_with_mark _ _ (blank_fronts blanks (60 ∷ rest) all))
    (ap (λ text. left_of (record {
      total = length (mark_if true ++ (blanks ++ 60 ∷ rest));
      opened = [];
      begun = false;
      rest = text;
    })) (marked (blanks ++ 60 ∷ rest))
    ∙ left_spaced (length (mark_if true ++ (blanks ++ 60 ∷ rest))) blanks rest all
    ∙ ap (λ total. left_of (record {
      total = total;
      opened = [];
      begun = false;
      rest = spaces (length blanks) ++ 60 ∷ rest;
    })) lengths
    ∙ ap (λ text. left_of (record {
      total = length (mark_if true ++ (spaces (length blanks) ++ 60 ∷ rest));
      opened = [];
      begun = false;
      rest = text;
    })) (sym (marked (spaces (length blanks) ++ 60 ∷ rest)))))

take_nil : (n : ℕ) → take {A = ℕ} n [] ≡ []
take_nil zero = refl
take_nil (suc n) = refl

plain_text : (taken : ℕ) (rest : List ℕ)
    → log_of (spaces taken ++ 60 ∷ rest) ≡ log_of (margin_text (margin.Blanks false) taken ++ 60 ∷ rest)
unfolding spaces
plain_text taken rest =
    let none : taken ≡ taken - 0 = omega arith in
    ap (λ (text : List ℕ). log_of ((text ++ replicate taken 32) ++ 60 ∷ rest)) (sym (take_nil taken))
    ∙ ap (λ (n : ℕ). log_of ((take taken [] ++ replicate n 32) ++ 60 ∷ rest)) none

marked_text : (n : ℕ) (rest : List ℕ) → log_of (mark_if true ++ (spaces n ++ 60 ∷ rest))
    ≡ log_of (margin_text (margin.Blanks true) (suc (suc (suc n))) ++ 60 ∷ rest)
unfolding spaces
marked_text n rest =
    let three : n ≡ suc (suc (suc n)) - 3 = omega arith in
    ap (λ (text : List ℕ). log_of (0xEF ∷ 0xBB ∷ 0xBF ∷ ((text ++ replicate n 32) ++ 60 ∷ rest))) (sym (take_nil n))
    ∙ ap (λ (m : ℕ). log_of ((take (suc (suc (suc n))) (mark_if true) ++ replicate m 32) ++ 60 ∷ rest)) three

-- spaces stand for the white space of the margin
pub spaced_log : (before : Margin) (front rest : List ℕ) (taken : ℕ) → MarginIs before front
    → may_begin before ≡ true → taken ≡ length front
    → log_of (front ++ 60 ∷ rest) ≡ log_of (margin_text before taken ++ 60 ∷ rest)
spaced_log margin.Nothing front rest taken is may taken_is =
    ap (λ text. log_of (text ++ 60 ∷ rest)) is
    ∙ ap (λ n. log_of (margin_text margin.Nothing n ++ 60 ∷ rest)) (sym (taken_is ∙ ap length is))
spaced_log margin.OneOctet front rest taken is may taken_is = absurd cc
spaced_log margin.TwoOctets front rest taken is may taken_is = absurd cc
spaced_log (margin.Blanks false) front rest taken is may taken_is =
    plain_log front rest is.0 is.1 ∙ ap (λ n. log_of (spaces n ++ 60 ∷ rest)) (sym taken_is) ∙ plain_text taken rest
spaced_log (margin.Blanks true) front rest taken is may taken_is =
    ap (λ text. log_of (text ++ 60 ∷ rest)) is.whole ∙ marked_log is.blanks rest is.blank
    ∙ marked_text (length is.blanks) rest
    ∙ ap (λ n. log_of (margin_text (margin.Blanks true) n ++ 60 ∷ rest)) (sym three) where
      three : taken ≡ suc (suc (suc (length is.blanks)))
      three = taken_is ∙ ap length is.whole
spaced_log margin.Over front rest taken is may taken_is = absurd cc
