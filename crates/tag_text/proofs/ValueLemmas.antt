-- Breaks, numbers and references in a value.
use Rattle.std.proofs.Common.{◌≡◌, ◌≢◌, ℕ, suc, ◌+◌, ◌<◌, ◌==◌, ◌&&◌, not, Bool, true, false, cond, List, [], ◌∷◌, ◌++◌, length, take, drop, get_or, codes, Some, None, arith, ap, ◌∙◌, sym, refl, subst, add-zero}
use Rattle.std.specs.List.{prefix_len, take_while}
use Rattle.std.proofs.lemmas.Bool.Decides.{nat_tests}
use Rattle.std.specs.Str.{IsCharBoundary}
use Rattle.std.proofs.lemmas.List.Sums.{prefix_len-le-length, prefix_len_stops}
use Rattle.std.proofs.lemmas.List.Folds.{length-prefix_len}
use Rattle.std.proofs.lemmas.List.{length-drop, get_or-drop, append-nil, append_assoc}
use Rattle.tag_text.proofs.OctetLemmas.{after_mark_splits, by_test, by_not}
use Rattle.tag_text.specs.Octets.{BeginsOther}
use Rattle.tag_text.specs.Octets.{after_mark}
use Rattle.tag_text.specs.Values.{is_break, space_for, spaced}

break_is_ascii : (octet : ℕ) → is_break octet ≡ true → octet < 128
break_is_ascii octet breaks = grind (arith, nat_tests)

space_for_plain : (octet : ℕ) → is_break octet ≡ false → space_for octet ≡ octet
space_for_plain octet plain = ap (λ (b : Bool). cond b 32 octet) plain

space_for_break : (octet : ℕ) → is_break octet ≡ true → space_for octet ≡ 32
space_for_break octet breaks = ap (λ (b : Bool). cond b 32 octet) breaks

-- a plain octet stays
spaced_plain : (octet : ℕ) (text : List ℕ) → is_break octet ≡ false → spaced (octet ∷ text) ≡ octet ∷ spaced text
spaced_plain octet [] plain = ap (λ (first : ℕ). first ∷ []) (space_for_plain octet plain)
spaced_plain octet (next ∷ text) plain =
    let other : (octet == 13 && next == 10) ≡ false = grind (arith, nat_tests) in
    ap (λ (b : Bool). cond b (spaced (next ∷ text)) (space_for octet ∷ spaced (next ∷ text))) other
    ∙ ap (λ (first : ℕ). first ∷ spaced (next ∷ text)) (space_for_plain octet plain)

none_test : {A : Type 0} (b : Bool) (x : A) → cond b (Some x) None ≡ None → b ≡ false
none_test true x none = cc none
none_test false x none = refl

no_line_end : (octet next : ℕ) (text : List ℕ) → after_mark (codes "\r\n") (octet ∷ next ∷ text) ≡ None
    → (octet == 13 && next == 10) ≡ false
unfolding after_mark
no_line_end octet next text none = let no_mark = none_test _ _ none in grind (arith, nat_tests)

-- a break that is no CR before LF becomes a space
spaced_break : (octet : ℕ) (text : List ℕ) → is_break octet ≡ true → after_mark (codes "\r\n") (octet ∷ text) ≡ None
    → spaced (octet ∷ text) ≡ 32 ∷ spaced text
spaced_break octet [] breaks one = ap (λ (first : ℕ). first ∷ []) (space_for_break octet breaks)
spaced_break octet (next ∷ text) breaks one =
    ap (λ (b : Bool). cond b (spaced (next ∷ text)) (space_for octet ∷ spaced (next ∷ text)))
    (no_line_end octet next text one)
    ∙ ap (λ (first : ℕ). first ∷ spaced (next ∷ text)) (space_for_break octet breaks)

pub one_break : (text : List ℕ) (octet : ℕ) (after : List ℕ) → text ≡ octet ∷ after → is_break octet ≡ true
    → after_mark (codes "\r\n") text ≡ None → spaced text ≡ 32 ∷ spaced after
one_break text octet after is breaks one = ap spaced is ∙ spaced_break octet after breaks (rw is at one)

-- CR with LF becomes one space
line_end : (text : List ℕ) → spaced (13 ∷ 10 ∷ text) ≡ 32 ∷ spaced text
line_end [] = refl
line_end (octet ∷ text) = refl

pub one_line_end : (text after : List ℕ) → after_mark (codes "\r\n") text ≡ Some after → spaced text ≡ 32 ∷ spaced after
one_line_end text after found = ap spaced (after_mark_splits (codes "\r\n") text after found) ∙ line_end after

pub no_break : (text : List ℕ) → ((octet : ℕ) (after : List ℕ) → octet < 128 → text ≢ octet ∷ after)
    → BeginsOther is_break text
no_break [] none = tt
no_break (octet ∷ text) none = by_test (is_break octet) (λ breaks. none octet text (break_is_ascii octet breaks) refl)

abbrev is_plain : ℕ → Bool
is_plain octet = not (is_break octet)

front_step : (octet : ℕ) (text : List ℕ) (b : Bool) → is_break octet ≡ b
    → spaced text ≡ take_while is_plain text ++ spaced (drop (length (take_while is_plain text)) text)
    → spaced (octet ∷ text) ≡ take_while is_plain (octet ∷ text)
    ++ spaced (drop (length (take_while is_plain (octet ∷ text))) (octet ∷ text))
front_step octet text true is rest =
    let Q : ℕ → Type 0 = λ n. spaced (octet ∷ text) ≡ take n (octet ∷ text)
    ++ spaced (drop (length (take n (octet ∷ text))) (octet ∷ text)) in
    let none : 0 ≡ prefix_len is_plain (octet ∷ text) =
    sym (ap (λ (b : Bool). cond (not b) (1 + prefix_len is_plain text) 0) is) in
    subst Q none refl
front_step octet text false is rest =
    let Q : ℕ → Type 0 = λ n. spaced (octet ∷ text) ≡ take n (octet ∷ text)
    ++ spaced (drop (length (take n (octet ∷ text))) (octet ∷ text)) in
    let more : 1 + prefix_len is_plain text ≡ prefix_len is_plain (octet ∷ text) =
    sym (ap (λ (b : Bool). cond (not b) (1 + prefix_len is_plain text) 0) is) in
    let one : suc (prefix_len is_plain text) ≡ prefix_len is_plain (octet ∷ text) = omega (arith, more) in
    subst Q one (spaced_plain octet text is ∙ ap (λ (others : List ℕ). octet ∷ others) rest)

-- the plain octets at the front stay
pub spaced_front : (text : List ℕ)
    → spaced text ≡ take_while (λ octet. not (is_break octet)) text
    ++ spaced (drop (length (take_while (λ octet. not (is_break octet)) text)) text)
spaced_front [] = refl
spaced_front (octet ∷ text) = front_step octet text (is_break octet) refl (spaced_front text)

-- where the plain octets end, the text may be cut
plain_cut : (text : List ℕ) (n : ℕ) → n ≡ prefix_len is_plain text → IsCharBoundary text n
plain_cut text n is = (
  omega (arith, is, prefix_len-le-length is_plain text),
  λ inside high. absurd (omega (
    arith,
    high,
    break_is_ascii (get_or text n 0)
        (by_not (is_break (get_or text n 0)) (rw is (prefix_len_stops is_plain text 0 (omega (arith, is, inside))))),
  )),
)

pub cut_after_plain : (text : List ℕ) → IsCharBoundary text (length (take_while (λ octet. not (is_break octet)) text))
cut_after_plain text = plain_cut text _ (length-prefix_len is_plain text)

nothing_left : (text rest : List ℕ) (n : ℕ) → n ≡ prefix_len is_plain text → drop n text ≡ rest
    → BeginsOther is_break rest → rest ≡ []
nothing_left text [] n is left none = refl
nothing_left text (octet ∷ rest) n is left none =
    let inside : n < length text = omega (arith, ap length left, length-drop n text) in
    let here : get_or text n 0 ≡ octet = ap (λ (k : ℕ). get_or text k 0) (sym (add-zero n))
    ∙ sym (get_or-drop n text 0 0) ∙ ap (λ (others : List ℕ). get_or others 0 0) left in
    let stops : is_plain (get_or text n 0) ≡ false =
    rw is (prefix_len_stops is_plain text 0 (omega (arith, is, inside))) in
    let breaks : is_break octet ≡ true = by_not (is_break octet) (rw here at stops) in
    cc (breaks, none)

-- the plain octets end at a break, or with the text
pub plain_end : (text : List ℕ) → BeginsOther is_break (drop (length (take_while (λ octet. not (is_break octet)) text))
    text)
    → drop (length (take_while (λ octet. not (is_break octet)) text)) text ≡ []
plain_end text none =
    nothing_left text (drop (length (take_while is_plain text)) text) (length (take_while is_plain text))
    (length-prefix_len is_plain text) refl none

-- the plain octets and the space of one break go over to what was appended
pub one_more : (before middle after plain rest more left whole : List ℕ) → middle ≡ before ++ plain → after ≡ middle
    ++ 32 ∷ []
    → spaced rest ≡ plain ++ spaced more → spaced more ≡ 32 ∷ spaced left → before ++ spaced rest ≡ whole → after
    ++ spaced left ≡ whole
one_more before middle after plain rest more left whole first second front breaks all =
    rw (second, first)
    (append_assoc (before ++ plain) (32 ∷ []) (spaced left) ∙ append_assoc before plain (32 ∷ spaced left)
    ∙ ap (λ (others : List ℕ). before ++ (plain ++ others)) (sym breaks)
    ∙ ap (λ (others : List ℕ). before ++ others) (sym front) ∙ all)

-- the last plain octets end the value
pub last_plain : (before after plain rest more whole : List ℕ) → after ≡ before ++ plain → spaced rest ≡ plain
    ++ spaced more → more ≡ []
    → before ++ spaced rest ≡ whole → after ≡ whole
last_plain before after plain rest more whole first front none all =
    first ∙ ap (λ (others : List ℕ). before ++ others) (sym (append-nil plain)
    ∙ ap (λ (others : List ℕ). plain ++ spaced others) (sym none) ∙ sym front) ∙ all

-- the same, with the plain octets as a front of the text
pub spaced_cut : (text : List ℕ)
    → spaced text ≡ take (length (take_while (λ octet. not (is_break octet)) text)) text
    ++ spaced (drop (length (take_while (λ octet. not (is_break octet)) text)) text)
spaced_cut text =
    spaced_front text
    ∙ ap (λ (front : List ℕ). front ++ spaced (drop (length (take_while is_plain text)) text))
    (ap (λ (n : ℕ). take n text) (sym (length-prefix_len is_plain text)))
