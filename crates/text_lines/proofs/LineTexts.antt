-- The words of a line and the lines of a text, taken off from the front.
use Prim.Native.Nat.{zero}
use Rattle.std.proofs.Common.{◌≡◌, ℕ, ◌+◌, ◌<◌, ◌≤◌, ◌&&◌, Bool, true, false, cond, not, nat_lt, List, [], ◌∷◌, length, get_or, take, drop, Option, Some, None, suc, subst, refl, sym, ap, ◌∙◌, arith, one-add, get_or-drop, length-drop}
use Rattle.std.specs.Prelude.{position, unwrap_or, ◌==◌}
use Rattle.std.specs.List.{filter, list_all, slice_split, onto_first, position_or_len}
use Rattle.std.specs.Str.Lines.{lines, lines_of_parts, strip_carriage_return}
use Rattle.std.proofs.Math.ListN.{drop_of_length-le}
use Rattle.std.proofs.lemmas.Bool.Decides.{nat_tests}
use Rattle.std.proofs.lemmas.List.Splits.{slice_split-cons_yes, slice_split-cons_no, slice_split_none, slice_split_first, length-slice_split}
use Rattle.std.proofs.lemmas.List.Sums.{fails_before_first, passes_at_first, prefix_len-le-length}
use Rattle.std.specs.Str.{IsUtf8}
use Rattle.std.proofs.lemmas.Str.{IsUtf8-from_ascii}
use Rattle.std.proofs.lemmas.List.Quantifiers.{position-Some}
use Rattle.memchr.specs.Find.{IsFirstByte, is_byte}
use Rattle.text_lines.specs.Lines.{is_blank, is_text, is_word, words_of, is_comment}

chosen : (b : Bool) (x n : ℕ) → cond b (Some x) None ≡ Some n → (b ≡ true) × (x ≡ n)
chosen true x n e = (refl, cc)
chosen false x n e = absurd cc

unchosen : (b : Bool) (x : ℕ) → cond b (Some x) None ≡ None → b ≡ false
unchosen true x e = absurd cc
unchosen false x e = refl

-- what a place that was found is, and what no place says
pub place_found : (p : ℕ → Bool) (text : List ℕ) (n : ℕ) → position p text ≡ Some n
    → (position_or_len p text < length text) × (position_or_len p text ≡ n)
place_found p text n found = let both = chosen (nat_lt (position_or_len p text) (length text)) (position_or_len p text)
    n found in ((grind (arith, nat_tests, both.0)), both.1)

pub no_place : (p : ℕ → Bool) (text : List ℕ) → position p text ≡ None → length text ≤ position_or_len p text
no_place p text none = let over = unchosen (nat_lt (position_or_len p text) (length text)) (position_or_len p text)
    none in grind (arith, nat_tests, over)

-- ---- words

not_not : (b : Bool) → not b ≡ true → b ≡ false
not_not true e = absurd cc
not_not false e = refl

pub words_of-blank : (octet : ℕ) (text : List ℕ) → is_blank octet ≡ true → words_of (octet ∷ text) ≡ words_of text
words_of-blank octet text e = ap (filter is_word) (slice_split-cons_yes is_blank octet text e)

at_blank : (octet : ℕ) (text : List ℕ) → is_blank octet ≡ true → position_or_len is_blank (octet ∷ text) ≡ 0
at_blank octet text e = rw e refl

before_blank : (octet : ℕ) (text : List ℕ) → is_blank octet ≡ false
    → position_or_len is_blank (octet ∷ text) ≡ suc (position_or_len is_blank text)
before_blank octet text e = rw (e, one-add) refl

blanks_skipped : (text : List ℕ) → words_of (drop (position_or_len (λ octet. not (is_blank octet)) text) text)
    ≡ words_of text
blanks_skipped [] = refl
blanks_skipped (octet ∷ text) = by (is_blank octet) refl (blanks_skipped text)
  where
    by : (b : Bool) → is_blank octet ≡ b → words_of (drop (position_or_len (λ octet. not (is_blank octet)) text) text)
        ≡ words_of text
        → words_of (drop (position_or_len (λ octet. not (is_blank octet)) (octet ∷ text)) (octet ∷ text))
        ≡ words_of (octet ∷ text)
    by true e rest =
        let one : position_or_len (λ octet. not (is_blank octet)) (octet ∷ text)
        ≡ suc (position_or_len (λ octet. not (is_blank octet)) text) = rw (e, one-add) refl in
        ap (λ (n : ℕ). words_of (drop n (octet ∷ text))) one ∙ rest ∙ sym (words_of-blank octet text e)
    by false e rest =
        let none : position_or_len (λ octet. not (is_blank octet)) (octet ∷ text) ≡ 0 = rw e refl in
        ap (λ (n : ℕ). words_of (drop n (octet ∷ text))) none

-- the part before the first blank, and the words after it
record FirstPart (text : List ℕ) (n : ℕ) : Type 0 where
  parts : List (List ℕ)
  split : slice_split is_blank text ≡ take n text ∷ parts
  words : filter is_word parts ≡ words_of (drop n text)

first_part : (text : List ℕ) → FirstPart text (position_or_len is_blank text)
first_part [] = record { parts = []; split = refl; words = refl }
first_part (octet ∷ text) = by (is_blank octet) refl (first_part text)
  where
    by : (b : Bool) → is_blank octet ≡ b → FirstPart text (position_or_len is_blank text)
        → FirstPart (octet ∷ text) (position_or_len is_blank (octet ∷ text))
    by true e rest =
        let here : FirstPart (octet ∷ text) 0 = record {
          parts = slice_split is_blank text;
          split = slice_split-cons_yes is_blank octet text e;
          words = sym (words_of-blank octet text e);
        } in
        subst (FirstPart (octet ∷ text)) (sym (at_blank octet text e)) here
    by false e rest =
        let later : FirstPart (octet ∷ text) (suc (position_or_len is_blank text)) =
        record {
          parts = rest.parts;
          split = slice_split-cons_no is_blank octet text e ∙ ap (onto_first octet) rest.split;
          words = rest.words;
        } in
        subst (FirstPart (octet ∷ text)) (sym (before_blank octet text e)) later

pub word_begins : (octet : ℕ) (text : List ℕ) → is_blank octet ≡ false
    → words_of (octet ∷ text) ≡ (octet ∷ take (position_or_len is_blank text) text)
    ∷ words_of (drop (position_or_len is_blank text) text)
word_begins octet text e =
    let first = first_part text in
    ap (filter is_word) (slice_split-cons_no is_blank octet text e ∙ ap (onto_first octet) first.split)
    ∙ ap (λ (words : List (List ℕ)). (octet ∷ take (position_or_len is_blank text) text) ∷ words) first.words

word_first : (octet : ℕ) (text : List ℕ) → is_blank octet ≡ false
    → words_of (octet ∷ text) ≡ take (position_or_len is_blank (octet ∷ text)) (octet ∷ text)
    ∷ words_of (drop (position_or_len is_blank (octet ∷ text)) (octet ∷ text))
word_first octet text e = word_begins octet text e ∙ ap (λ (n : ℕ). take n (octet ∷ text)
    ∷ words_of (drop n (octet ∷ text))) (sym (before_blank octet text e))

length_or_place : (b : Bool) (place all : ℕ) → (b ≡ false → place ≡ all)
    → unwrap_or (cond b (Some place) None) all ≡ place
length_or_place true place all at_end = refl
length_or_place false place all at_end = sym (at_end refl)

pub place_or_length : (p : ℕ → Bool) (text : List ℕ) → unwrap_or (position p text) (length text)
    ≡ position_or_len p text
place_or_length p text =
    length_or_place (nat_lt (position_or_len p text) (length text)) (position_or_len p text) (length text)
    (λ over. grind (arith, nat_tests, over, prefix_len-le-length (λ (octet : ℕ). not (p octet)) text))

pub no_word : (text : List ℕ) → position (λ octet. not (is_blank octet)) text ≡ None → words_of text ≡ []
no_word text none =
    let over = no_place (λ octet. not (is_blank octet)) text none in
    sym (blanks_skipped text) ∙ ap words_of (drop_of_length-le text over)

word_at_front : (text : List ℕ) → 0 < length text → is_blank (get_or text 0 0) ≡ false
    → words_of text ≡ take (position_or_len is_blank text) text ∷ words_of (drop (position_or_len is_blank text) text)
word_at_front [] some e = absurd (omega arith)
word_at_front (octet ∷ text) some e = word_first octet text e

-- behind the blanks in front of a text stands its first word
record BeginsWord (text rest : List ℕ) : Type 0 where
  same : words_of text ≡ words_of rest
  some : 0 < length rest
  letter : is_blank (get_or rest 0 0) ≡ false

at_place : (text rest : List ℕ) (begin : ℕ) → rest ≡ drop begin text → get_or rest 0 0 ≡ get_or text begin 0
at_place text rest begin rest_is =
    let added : begin + 0 ≡ begin = omega arith in
    ap (λ (t : List ℕ). get_or t 0 0) rest_is ∙ get_or-drop begin text 0 0 ∙ ap (λ (n : ℕ). get_or text n 0) added

begins_word : (text rest : List ℕ) (begin : ℕ) → position (λ octet. not (is_blank octet)) text ≡ Some begin
    → rest ≡ drop begin text → BeginsWord text rest
begins_word text rest begin found rest_is =
    let place = place_found (λ octet. not (is_blank octet)) text begin found in
    let passes = passes_at_first (λ octet. not (is_blank octet)) text 0 place.0 in
    record {
      same = sym (blanks_skipped text) ∙ ap (λ (n : ℕ). words_of (drop n text)) place.1 ∙ ap words_of (sym rest_is);
      some = omega (arith, ap length rest_is, length-drop begin text, place.0, place.1);
      letter = ap is_blank (at_place text rest begin rest_is ∙ ap (λ (n : ℕ). get_or text n 0) (sym place.1))
          ∙ not_not _ passes;
    }

pub word_cut : (text rest : List ℕ) (begin : ℕ) (end : Option ℕ)
    → position (λ octet. not (is_blank octet)) text ≡ Some begin → rest ≡ drop begin text → end ≡ position is_blank rest
    → words_of text ≡ take (unwrap_or end (length rest)) rest ∷ words_of (drop (unwrap_or end (length rest)) rest)
word_cut text rest begin end found rest_is end_is =
    let begins = begins_word text rest begin found rest_is in
    let until : unwrap_or end (length rest) ≡ position_or_len is_blank rest =
    ap (λ (o : Option ℕ). unwrap_or o (length rest)) end_is ∙ place_or_length is_blank rest in
    begins.same ∙ word_at_front rest begins.some begins.letter
    ∙ ap (λ (n : ℕ). take n rest ∷ words_of (drop n rest)) (sym until)

comment_at_front : (text : List ℕ) → 0 < length text → is_blank (get_or text 0 0) ≡ false
    → is_comment (words_of text) ≡ (get_or text 0 0 == 35)
comment_at_front [] some e = absurd (omega arith)
comment_at_front (octet ∷ text) some e = ap is_comment (word_begins octet text e)

-- a line is a comment where its first word begins with the sign, and where it has no word
pub comment_at : (text : List ℕ) (begin : ℕ) → position (λ octet. not (is_blank octet)) text ≡ Some begin
    → is_comment (words_of text) ≡ (get_or text begin 0 == 35)
comment_at text begin found =
    let begins = begins_word text (drop begin text) begin found refl in
    ap is_comment begins.same ∙ comment_at_front (drop begin text) begins.some begins.letter
    ∙ ap (λ (octet : ℕ). octet == 35) (at_place text (drop begin text) begin refl)

pub no_comment : (text : List ℕ) → position (λ octet. not (is_blank octet)) text ≡ None
    → is_comment (words_of text) ≡ true
no_comment text none = ap is_comment (no_word text none)

pub both_true : (a b : Bool) → (a && b) ≡ true → (a ≡ true) × (b ≡ true)
both_true true b e = (refl, e)
both_true false b e = absurd cc

text_below : (octet : ℕ) → is_text octet ≡ true → octet < 128
text_below octet e = grind (arith, nat_tests, e)

text_ascii : (text : List ℕ) → list_all is_text text ≡ true → (i : ℕ) → get_or text i 0 < 128
text_ascii [] e i = omega arith
text_ascii (octet ∷ text) e zero = text_below octet (both_true (is_text octet) (list_all is_text text) e).0
text_ascii (octet ∷ text) e (suc i) = text_ascii text (both_true (is_text octet) (list_all is_text text) e).1 i

pub text_is_utf8 : (text : List ℕ) → list_all is_text text ≡ true → IsUtf8 text
text_is_utf8 text e = IsUtf8-from_ascii text (text_ascii text e)

-- ---- lines

hit : (octet : ℕ) → (octet == 10) ≡ true → (octet == 10) ≡ false → ⊥
hit octet is is_not = cc

same_place : (k n : ℕ) → (n < k → ⊥) → (k < n → ⊥) → k ≡ n
same_place k n not_before not_after = omega (arith, not_before, not_after)

-- a search for a line feed finds the first
pub first_place : (text : List ℕ) (found : Option ℕ) → IsFirstByte (is_byte 10) text found
    → found ≡ position (λ octet. octet == 10) text
first_place text None first = by (position (λ octet. octet == 10) text) refl
  where
    by : (place : Option ℕ) → position (λ octet. octet == 10) text ≡ place → None ≡ place
    by None is = refl
    by (Some n) is =
        let at = position-Some (λ (octet : ℕ). octet == 10) text n 0 is in
        absurd (first n (omega arith) at.0 at.1)
first_place text (Some k) first = by (position (λ octet. octet == 10) text) refl
  where
    by : (place : Option ℕ) → position (λ octet. octet == 10) text ≡ place → Some k ≡ place
    by None is =
        let over = no_place (λ octet. octet == 10) text is in
        let before : k < position_or_len (λ octet. octet == 10) text = omega (arith, over, first.0.high) in
        absurd (hit (get_or text k 0) first.1 (fails_before_first (λ octet. octet == 10) text k 0 before))
    by (Some n) is =
        let at = position-Some (λ (octet : ℕ). octet == 10) text n 0 is in
        let not_before : n < k → ⊥ = λ less. first.0.before n (omega arith) less at.1 in
        let not_after : k < n → ⊥ = λ more. hit (get_or text k 0) first.1 (at.2 k more) in
        ap Some (same_place k n not_before not_after)

lines_of_more : (part : List ℕ) (text : List ℕ) (parts : List (List ℕ))
    → slice_split (λ octet. octet == 10) text ≡ parts → 0 < length parts
    → lines_of_parts (part ∷ parts) ≡ strip_carriage_return part ∷ lines_of_parts parts
lines_of_more part text [] is some = absurd (omega arith)
lines_of_more part text (first ∷ parts) is some = refl

pub line_cut : (text rest : List ℕ) (end : ℕ) → position (λ octet. octet == 10) text ≡ Some end
    → rest ≡ drop (end + 1) text
    → (lines text ≡ strip_carriage_return (take end text) ∷ lines rest) × (length rest < length text)
line_cut text rest end found rest_is =
    let place = place_found (λ octet. octet == 10) text end found in
    let split : slice_split (λ octet. octet == 10) text ≡ take end text ∷ slice_split (λ octet. octet == 10) rest =
    slice_split_first (λ octet. octet == 10) text 0 place.0 ∙ ap
    (λ (n : ℕ). take n text ∷ slice_split (λ octet. octet == 10) (drop (n + 1) text)) place.1
    ∙ ap (λ (t : List ℕ). take end text ∷ slice_split (λ octet. octet == 10) t) (sym rest_is) in (
      ap lines_of_parts split ∙ lines_of_more (take end text) rest _ refl
          (omega (arith, length-slice_split (λ (octet : ℕ). octet == 10) rest)),
      omega (arith, ap length rest_is, length-drop (end + 1) text, place.0, place.1),
    )

pub no_line_feed : (text : List ℕ) → position (λ octet. octet == 10) text ≡ None → 0 < length text → lines text ≡ text
    ∷ []
no_line_feed text none some =
    let over = no_place (λ octet. octet == 10) text none in
    let parts : slice_split (λ octet. octet == 10) text ≡ text ∷ [] =
    slice_split_none (λ octet. octet == 10) text (λ k d within. fails_before_first (λ octet. octet == 10) text k d
    (omega arith)) in
    ap lines_of_parts parts ∙ (grind (arith, nat_tests))
