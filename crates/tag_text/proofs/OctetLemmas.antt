-- Where a text may be cut, and what the search for a mark gives.
use Rattle.std.proofs.Common.{◌≡◌, ℕ, zero, suc, ◌+◌, ◌<◌, ◌≤◌, Bool, true, false, cond, not, nat_lt, List, [], ◌∷◌, ◌++◌, length, take, drop, get_or, nat_eq, Option, Some, None, arith, ap, ◌∙◌, sym, refl, subst, eqb-true}
use Rattle.std.specs.List.{prefix_len, position_or_len, starts_with, take_while, before_first, after_first, list_any, slice_split, All}
use Rattle.std.specs.Option.{option_map, MatchOption}
use Rattle.std.specs.Str.{IsCharBoundary, IsUtf8}
use Rattle.std.specs.Str.Pattern.{FindsText, FindsTextPrefix, LacksTextAt}
use Rattle.std.proofs.lemmas.Bool.Decides.{nat_tests, Decides-eqb}
use Rattle.std.proofs.lemmas.Str.{IsCharBoundary-start, IsCharBoundary-after_ascii}
use Rattle.std.proofs.lemmas.List.Sums.{prefix_len-le-length, prefix_len_passes, prefix_len_stops}
use Rattle.std.proofs.lemmas.List.Folds.{length-prefix_len}
use Rattle.std.proofs.lemmas.Slice.Eq.{starts_is}
use Rattle.std.proofs.lemmas.List.Folds.{list_any_at, list_any_none}
use Rattle.std.proofs.lemmas.List.Splits.{slice_split_first, slice_split_none}
use Rattle.std.proofs.lemmas.Str.Pattern.{IsSplitOnceResult, split_once_first}
use borrow.Author.Tests.{ltb-true, ltb-false}
use Rattle.std.proofs.lemmas.List.{length-append, length-drop, length-take, get_or-take, take-append-drop, drop_more}
use denote.Ref.{Bor}
use Rattle.tag_text.specs.Pieces.{is_text_octet}
use Rattle.tag_text.specs.Octets.{is_blank, is_name_octet, is_octet, after_mark, after_first_mark, cut_at}

-- what is no octet of a name is ASCII
other_is_ascii : (octet : ℕ) → is_name_octet octet ≡ false → octet < 128
other_is_ascii octet other = grind (arith, nat_tests)

blank_is_ascii : (octet : ℕ) → is_blank octet ≡ true → octet < 128
blank_is_ascii octet blank = grind (arith, nat_tests)

names_cut : (text : List ℕ) (n : ℕ) → n ≡ prefix_len is_name_octet text → IsCharBoundary text n
names_cut text n is = (
  omega (arith, is, prefix_len-le-length is_name_octet text),
  λ inside high. absurd (omega (
    arith,
    high,
    other_is_ascii (get_or text n 0)
        (rw is (prefix_len_stops is_name_octet text 0 (omega (arith, is, inside)))),
  )),
)

pub cut_after_name : (text : List ℕ) → IsCharBoundary text (length (take_while is_name_octet text))
cut_after_name text = names_cut text _ (length-prefix_len is_name_octet text)

blanks_cut : (text : List ℕ) (n : ℕ) → IsUtf8 text → n ≡ prefix_len is_blank text → IsCharBoundary text n
blanks_cut text zero utf8 is = IsCharBoundary-start text utf8
blanks_cut text (suc n) utf8 is =
    let inside : n < length text = omega (arith, is, prefix_len-le-length is_blank text) in
    let passes : is_blank (get_or text n 0) ≡ true = prefix_len_passes is_blank text n 0 (omega (arith, is)) in
    let P : ℕ → Type 0 = λ m. IsCharBoundary text m in
    let one : n + 1 ≡ suc n = omega arith in
    subst P one (IsCharBoundary-after_ascii text n utf8 inside (blank_is_ascii (get_or text n 0) passes))

pub cut_after_blanks : (text : List ℕ) → IsUtf8 text → IsCharBoundary text (length (take_while is_blank text))
cut_after_blanks text utf8 = blanks_cut text _ utf8 (length-prefix_len is_blank text)

pub by_test : (b : Bool) → (b ≡ true → ⊥) → b ≡ false
by_test true never = absurd (never refl)
by_test false never = refl

-- the test for a mark at the front
pub begins : (mark text rest : List ℕ) → text ≡ mark ++ rest → starts_with nat_eq text mark ≡ true
begins mark text rest is = (starts_is Decides-eqb text mark (starts_with nat_eq text mark) refl).1 rest is

pub lacks : (mark text : List ℕ) → LacksTextAt mark text 0 → starts_with nat_eq text mark ≡ false
lacks mark text none =
    by_test (starts_with nat_eq text mark) (λ yes. none (drop (length mark) text)
    ((starts_is Decides-eqb text mark (starts_with nat_eq text mark) refl).0 yes))

pub after_mark_is : (mark text : List ℕ) (found : Option (Bor (List ℕ)))
    → MatchOption found (FindsTextPrefix mark text None) (λ x. (n : ℕ) × FindsTextPrefix mark text (Some n)
    × (x.now ≡ drop n text) × (length x.now + n ≡ length text))
    → option_map (λ after. after.now) found ≡ after_mark mark text
unfolding after_mark
after_mark_is mark text None is = rw (lacks mark text is) refl
after_mark_is mark text (Some x) is =
    rw (begins mark text (drop is.0 text) is.1.1) (ap Some (is.2 ∙ ap (λ (n : ℕ). drop n text) is.1.0))

-- the first mark stands where it was found
pub first_mark_at : (mark text : List ℕ) (i j : ℕ) → 0 < length mark → ((k : ℕ) → k < i → LacksTextAt mark text k)
    → drop i text ≡ mark ++ drop j text → j ≡ i + length mark → after_first_mark mark text ≡ Some (drop j text)
unfolding after_first_mark
first_mark_at mark [] i j some before here ends =
    absurd (omega (arith, ap length here, length-drop {A = ℕ} i [], length-append mark (drop j []), some))
first_mark_at mark (octet ∷ text) zero j some before here ends =
    rw (begins mark (octet ∷ text) _ here) (let e : length mark ≡ j = omega (arith, ends) in
    ap (λ (n : ℕ). Some (drop n (octet ∷ text))) e)
first_mark_at mark (octet ∷ text) (suc i) zero some before here ends = absurd (omega (arith, ends))
first_mark_at mark (octet ∷ text) (suc i) (suc j) some before here ends =
    rw (lacks mark (octet ∷ text) (before 0 (omega arith)))
    (first_mark_at mark text i j some (λ k below. before (suc k) (omega (arith, below))) here (omega (arith, ends)))

pub no_mark : (mark text : List ℕ) → ((k : ℕ) → k ≤ length text → LacksTextAt mark text k)
    → after_first_mark mark text ≡ None
unfolding after_first_mark
no_mark mark [] none = refl
no_mark mark (octet ∷ text) none =
    rw (lacks mark (octet ∷ text) (none 0 (omega arith))) (no_mark mark text
    (λ k below. none (suc k) (omega (arith, below))))

pub after_first_mark_is : (mark text : List ℕ) (found : Option (Bor (List ℕ) × Bor (List ℕ))) → 0 < length mark
    → MatchOption found (FindsText mark text None) (λ x. (i : ℕ) × (j : ℕ) × FindsText mark text (Some (i, j))
    × (x.0.now ≡ take i text) × (x.1.now ≡ drop j text) × (i ≤ j) × (length x.0.now ≡ i)
    × (length x.1.now + j ≡ length text))
    → option_map (λ parts. parts.1.now) found ≡ after_first_mark mark text
after_first_mark_is mark text None some is = sym (no_mark mark text is)
after_first_mark_is mark text (Some x) some is =
    ap Some is.4 ∙ sym (first_mark_at mark text is.0 is.1 some is.2.0 is.2.1.split is.2.1.ends)

mark_splits : (mark text after : List ℕ) (b : Bool) → starts_with nat_eq text mark ≡ b
    → cond b (Some (drop (length mark) text)) None ≡ Some after → text ≡ mark ++ after
mark_splits mark text after true is found =
    (starts_is Decides-eqb text mark (starts_with nat_eq text mark) refl).0 is
    ∙ ap (λ (rest : List ℕ). mark ++ rest) (cc found)
mark_splits mark text after false is found = cc found

-- what follows a mark
pub after_mark_splits : (mark text after : List ℕ) → after_mark mark text ≡ Some after → text ≡ mark ++ after
unfolding after_mark
after_mark_splits mark text after found = mark_splits mark text after (starts_with nat_eq text mark) refl found

pub by_not : (b : Bool) → not b ≡ false → b ≡ true
by_not true is = refl
by_not false is = cc is

pub by_not_true : (b : Bool) → not b ≡ true → b ≡ false
by_not_true true is = cc is
by_not_true false is = refl

-- there is such an octet where its place is within the text
any_within : (octet : ℕ) (text : List ℕ) → position_or_len (is_octet octet) text < length text
    → list_any (is_octet octet) text ≡ true
any_within octet text within =
    list_any_at (is_octet octet) text (position_or_len (is_octet octet) text) 0 within
    (by_not (is_octet octet (get_or text (position_or_len (is_octet octet) text) 0))
    (prefix_len_stops (λ (x : ℕ). not (is_octet octet x)) text 0 within))

none_within : (octet : ℕ) (text : List ℕ) → position_or_len (is_octet octet) text ≡ length text
    → All (λ other. is_octet octet other ≡ false) text
none_within octet text none =
    λ k d below. by_not_true (is_octet octet (get_or text k d))
    (prefix_len_passes (λ (x : ℕ). not (is_octet octet x)) text k d (omega (arith, none, below)))

pub cut_at_is : (octet : ℕ) (text : List ℕ) (found : Option (Bor (List ℕ) × Bor (List ℕ)))
    → IsSplitOnceResult octet text found → octet < 128
    → option_map (λ parts. (parts.0.now, parts.1.now)) found ≡ cut_at octet text
unfolding cut_at
cut_at_is octet text None is ascii =
    rw (list_any_none (is_octet octet) text (none_within octet text (split_once_first octet text None is ascii))) refl
cut_at_is octet text (Some parts) is ascii =
    let first = split_once_first octet text (Some parts) is ascii in
    rw (any_within octet text first.0) (cc (first.1, first.2))

within_test : (octet : ℕ) (text : List ℕ) (b : Bool) → nat_lt (position_or_len (is_octet octet) text) (length text) ≡ b
    → list_any (is_octet octet) text ≡ true → position_or_len (is_octet octet) text < length text
within_test octet text true is any = ltb-true _ _ is
within_test octet text false is any =
    let none : position_or_len (is_octet octet) text ≡ length text =
    omega (arith, prefix_len-le-length (λ (x : ℕ). not (is_octet octet x)) text, ltb-false _ _ is) in
    cc (any, list_any_none (is_octet octet) text (none_within octet text none))

within_any : (octet : ℕ) (text : List ℕ) → list_any (is_octet octet) text ≡ true
    → position_or_len (is_octet octet) text < length text
within_any octet text any =
    within_test octet text (nat_lt (position_or_len (is_octet octet) text) (length text)) refl any

-- a cut is the first part of the list of parts
pub record IsCut (octet : ℕ) (text front rest : List ℕ) : Type 0 where
  pub splits : text ≡ front ++ octet ∷ rest
  pub lacks : All (λ other. is_octet octet other ≡ false) front
  pub parts : slice_split (is_octet octet) text ≡ front ∷ slice_split (is_octet octet) rest
  pub less : length rest < length text

lacks_before : (octet : ℕ) (text : List ℕ) → All (λ other. is_octet octet other ≡ false)
    (before_first (is_octet octet) text)
lacks_before octet text =
    λ k d below.
    let within : k < position_or_len (is_octet octet) text =
    omega (arith, below, length-take (position_or_len (is_octet octet) text) text) in
    rw (get_or-take (position_or_len (is_octet octet) text) text k d within)
    (by_not_true (is_octet octet (get_or text k d)) (prefix_len_passes (λ (x : ℕ). not (is_octet octet x)) text k d
    within))

cut_test : (octet : ℕ) (text front rest : List ℕ) (b : Bool) → list_any (is_octet octet) text ≡ b
    → cond {A = Option (List ℕ × List ℕ)} b (Some (
      before_first (is_octet octet) text,
      after_first (is_octet octet)
          text,
    )) None ≡ Some (front, rest) → IsCut octet text front rest
cut_test octet text front rest true is found =
    let within = within_any octet text is in
    let here : List ℕ × List ℕ = (before_first (is_octet octet) text, after_first (is_octet octet) text) in
    let there : List ℕ × List ℕ = (front, rest) in
    let same : here ≡ there = cc found in
    let same_front : before_first (is_octet octet) text ≡ front = ap (λ (pair : List ℕ × List ℕ). pair.0) same in
    let same_rest : after_first (is_octet octet) text ≡ rest = ap (λ (pair : List ℕ × List ℕ). pair.1) same in
    let place : ℕ = position_or_len (is_octet octet) text in
    let here_is : get_or text place 0 ≡ octet =
    eqb-true _ _ (by_not (is_octet octet (get_or text place 0))
    (prefix_len_stops (λ (x : ℕ). not (is_octet octet x)) text 0 within)) in
    record {
      splits =
          sym (take-append-drop place text)
          ∙ ap (λ (others : List ℕ). take place text ++ others) (drop_more text place 0 within
          ∙ ap (λ (first : ℕ). first ∷ drop (place + 1) text) here_is)
          ∙ cc (same_front, same_rest);
      lacks = (let P : List ℕ → Type 0 = λ part. All (λ other. is_octet octet other ≡ false) part in
          subst P same_front (lacks_before octet text));
      parts = slice_split_first (is_octet octet) text 0 within ∙ cc (same_front, same_rest);
      less = omega (arith, within, ap length same_rest, length-drop (position_or_len (is_octet octet) text + 1) text);
    }
cut_test octet text front rest false is found = cc found

pub cut_is : (octet : ℕ) (text front rest : List ℕ) → Some (front, rest) ≡ cut_at octet text
    → IsCut octet text front rest
unfolding cut_at
cut_is octet text front rest found = cut_test octet text front rest (list_any (is_octet octet) text) refl (sym found)

no_cut_test : (octet : ℕ) (text : List ℕ) (b : Bool) → nat_lt (position_or_len (is_octet octet) text) (length text) ≡ b
    → cond {A = Option (List ℕ × List ℕ)} (list_any (is_octet octet) text)
    (Some (before_first (is_octet octet) text, after_first (is_octet octet) text)) None ≡ None
    → slice_split (is_octet octet) text ≡ text ∷ []
no_cut_test octet text true is none = cc (rw (any_within octet text (ltb-true _ _ is)) at none)
no_cut_test octet text false is none =
    slice_split_none (is_octet octet) text (none_within octet text
    (omega (arith, prefix_len-le-length (λ (x : ℕ). not (is_octet octet x)) text, ltb-false _ _ is)))

-- where there is no cut, the text is the one part
pub no_cut : (octet : ℕ) (text : List ℕ) → None ≡ cut_at octet text → slice_split (is_octet octet) text ≡ text ∷ []
unfolding cut_at
no_cut octet text none =
    no_cut_test octet text (nat_lt (position_or_len (is_octet octet) text) (length text)) refl (sym none)

open_is_ascii : (octet : ℕ) → is_text_octet octet ≡ false → octet < 128
open_is_ascii octet stops = grind (arith, nat_tests)

text_cut : (text : List ℕ) (n : ℕ) → n ≡ prefix_len is_text_octet text → IsCharBoundary text n
text_cut text n is = (
  omega (arith, is, prefix_len-le-length is_text_octet text),
  λ inside high. absurd (omega (
    arith,
    high,
    open_is_ascii (get_or text n 0)
        (rw is (prefix_len_stops is_text_octet text 0 (omega (arith, is, inside)))),
  )),
)

pub cut_after_text : (text : List ℕ) → IsCharBoundary text (length (take_while is_text_octet text))
cut_after_text text = text_cut text _ (length-prefix_len is_text_octet text)

-- the first occurrence of a mark: what stands before it, and that the mark stands at no place of that
pub record HasFirstMark (mark text after : List ℕ) : Type 0 where
  pub front : List ℕ
  pub splits : text ≡ front ++ (mark ++ after)
  pub first : (k : ℕ) → k < length front → LacksTextAt mark text k

lacks_from : (mark text : List ℕ) → starts_with nat_eq text mark ≡ false → LacksTextAt mark text 0
lacks_from mark text is rest same = cc (is, begins mark text rest same)

later_lacks : (mark : List ℕ) (octet : ℕ) (text front : List ℕ) → starts_with nat_eq (octet ∷ text) mark ≡ false
    → ((k : ℕ) → k < length front → LacksTextAt mark text k) → (k : ℕ) → k < suc (length front)
    → LacksTextAt mark (octet ∷ text) k
later_lacks mark octet text front is first zero below = lacks_from mark (octet ∷ text) is
later_lacks mark octet text front is first (suc k) below = first k (omega (arith, below))

first_mark_case : (mark : List ℕ) (octet : ℕ) (text after : List ℕ) (b : Bool)
    → starts_with nat_eq (octet ∷ text) mark ≡ b
    → cond b (Some (drop (length mark) (octet ∷ text))) (after_first_mark mark text) ≡ Some after
    → (after_first_mark mark text ≡ Some after → HasFirstMark mark text after) → HasFirstMark mark (octet ∷ text) after
first_mark_case mark octet text after true is found later = record {
  front = [];
  splits = mark_splits mark (octet ∷ text) after true is found;
  first = λ k below. absurd (omega (arith, below));
}
first_mark_case mark octet text after false is found later =
    let has = later found in
    record {
      front = octet ∷ has.front;
      splits = ap (λ (others : List ℕ). octet ∷ others) has.splits;
      first = later_lacks mark octet text has.front is has.first;
    }

pub has_first_mark : (mark text after : List ℕ) → after_first_mark mark text ≡ Some after → HasFirstMark mark text after
unfolding after_first_mark
has_first_mark mark [] after found = cc found
has_first_mark mark (octet ∷ text) after found =
    first_mark_case mark octet text after (starts_with nat_eq (octet ∷ text) mark) refl found
    (has_first_mark mark text after)
