-- What the margin at the front of a file says of its kind.
use Rattle.std.proofs.Common.{◌≡◌, ◌≢◌, ℕ, ◌<◌, ◌==◌, nat_eq, take, drop, Bool, true, false, cond, List, [], ◌∷◌, ◌++◌, length, refl, sym, ap, subst, ◌∙◌, append_assoc, append-nil, length-append, arith}
use Rattle.std.specs.Prelude.{◌&&◌, take_while, unwrap_or, Option, Some, None}
use Rattle.std.specs.Cmp.Lexicographic.{pointwise}
use Rattle.std.specs.List.{list_all}
use Rattle.std.proofs.lemmas.List.Sums.{take_while-cons}
use Rattle.std.proofs.lemmas.Bool.Decides.{nat_tests}
use Rattle.tag_text.specs.Octets.{is_blank, after_blanks, after_mark}
use Rattle.tag_text.specs.Document.{after_order_mark}
use Rattle.frame_file.specs.Logs.{begins_tag, is_log}
use Rattle.frame_file.specs.Lead.{mark_if, IsMarked, MarginIs, may_begin, margin_after}
use Rattle.frame_file.specs.declared.margin.Margin.{Margin}
use Rattle.frame_file.specs.declared.margin.Margin.TheVariants as margin

pub both : (a b : Bool) → (a && b) ≡ true → (a ≡ true) × (b ≡ true)
both true b e = (refl, e)
both false b e = absurd cc

-- ---- blanks at the front

pub one_blank : (octet : ℕ) (rest : List ℕ) → is_blank octet ≡ true → after_blanks (octet ∷ rest) ≡ after_blanks rest
unfolding after_blanks
one_blank octet rest e = ap (λ (w : List ℕ). drop (length w) (octet ∷ rest)) (take_while-cons is_blank octet rest
    ∙ ap (λ (b : Bool). cond b (octet ∷ take_while is_blank rest) []) e)

pub no_blank : (octet : ℕ) (rest : List ℕ) → is_blank octet ≡ false → after_blanks (octet ∷ rest) ≡ octet ∷ rest
unfolding after_blanks
no_blank octet rest e = ap (λ (w : List ℕ). drop (length w) (octet ∷ rest)) (take_while-cons is_blank octet rest
    ∙ ap (λ (b : Bool). cond b (octet ∷ take_while is_blank rest) []) e)

pub blanks_passed : (blanks rest : List ℕ) → list_all is_blank blanks ≡ true
    → after_blanks (blanks ++ rest) ≡ after_blanks rest
blanks_passed [] rest all = refl
blanks_passed (octet ∷ blanks) rest all =
    let each = both (is_blank octet) (list_all is_blank blanks) all in
    one_blank octet (blanks ++ rest) each.0 ∙ blanks_passed blanks rest each.1

pub blanks_more : (blanks : List ℕ) (octet : ℕ) → list_all is_blank blanks ≡ true → is_blank octet ≡ true
    → list_all is_blank (blanks ++ octet ∷ []) ≡ true
blanks_more [] octet all here = rw here refl
blanks_more (first ∷ blanks) octet all here =
    let each = both (is_blank first) (list_all is_blank blanks) all in rw each.0 (blanks_more blanks octet each.1 here)

-- ---- the byte order mark

pub unmarked : (octet : ℕ) (rest : List ℕ) → (octet == 0xEF) ≡ false → after_order_mark (octet ∷ rest) ≡ octet ∷ rest
unfolding after_mark
unmarked octet rest e =
    let differs : nat_eq 0xEF octet ≡ false = grind (arith, nat_tests, e) in
    ap (λ (b : Bool). unwrap_or (cond {A = Option (List ℕ)} (b && pointwise nat_eq (0xBB ∷ 0xBF ∷ []) (take 2 rest))
    (Some (drop 3 (octet ∷ rest))) None) (octet ∷ rest)) differs

half_marked : (octet : ℕ) (rest : List ℕ) → (octet == 0xBB) ≡ false
    → after_order_mark (0xEF ∷ octet ∷ rest) ≡ 0xEF ∷ octet ∷ rest
unfolding after_mark
half_marked octet rest e =
    let differs : nat_eq 0xBB octet ≡ false = grind (arith, nat_tests, e) in
    ap (λ (b : Bool). unwrap_or (cond {A = Option (List ℕ)} (b && pointwise nat_eq (0xBF ∷ []) (take 1 rest))
    (Some (drop 3 (0xEF ∷ octet ∷ rest))) None) (0xEF ∷ octet ∷ rest)) differs

nearly_marked : (octet : ℕ) (rest : List ℕ) → (octet == 0xBF) ≡ false
    → after_order_mark (0xEF ∷ 0xBB ∷ octet ∷ rest) ≡ 0xEF ∷ 0xBB ∷ octet ∷ rest
unfolding after_mark
nearly_marked octet rest e =
    let differs : nat_eq 0xBF octet ≡ false = grind (arith, nat_tests, e) in
    ap (λ (b : Bool). unwrap_or (cond {A = Option (List ℕ)} (b && pointwise nat_eq [] (take 0 rest))
    (Some (drop 3 (0xEF ∷ 0xBB ∷ octet ∷ rest))) None) (0xEF ∷ 0xBB ∷ octet ∷ rest)) differs

pub marked : (rest : List ℕ) → after_order_mark (0xEF ∷ 0xBB ∷ 0xBF ∷ rest) ≡ rest
unfolding after_mark
marked rest = refl

no_log_of_mark : (rest : List ℕ) → begins_tag (after_blanks (0xEF ∷ rest)) ≡ false
no_log_of_mark rest = ap begins_tag (no_blank 0xEF rest refl)

blank_is_no_mark : (octet : ℕ) → is_blank octet ≡ true → (octet == 0xEF) ≡ false
blank_is_no_mark octet e = grind (arith, nat_tests)

pub plain_front : (front rest : List ℕ) → 0 < length front → list_all is_blank front ≡ true
    → after_blanks (after_order_mark (front ++ rest)) ≡ after_blanks rest
plain_front [] rest some all = absurd (omega (arith, some))
plain_front (octet ∷ front) rest some all =
    let each = both (is_blank octet) (list_all is_blank front) all in
    ap after_blanks (unmarked octet (front ++ rest) (blank_is_no_mark octet each.0))
    ∙ blanks_passed (octet ∷ front) rest all

pub marked_front : (blanks rest : List ℕ) → list_all is_blank blanks ≡ true
    → after_blanks (after_order_mark ((mark_if true ++ blanks) ++ rest)) ≡ after_blanks rest
marked_front blanks rest all = ap after_blanks (marked (blanks ++ rest)) ∙ blanks_passed blanks rest all

-- ---- one more octet

-- after this front another octet begins no tag
other_octet : (octet : ℕ) (rest : List ℕ) → is_blank octet ≡ false → octet ≢ 60
    → begins_tag (after_blanks (octet ∷ rest)) ≡ false
other_octet octet rest blank other =
    ap begins_tag (no_blank octet rest blank) ∙ (grind (arith, nat_tests))

grown : (front : List ℕ) (octet : ℕ) → ((rest : List ℕ) → is_log (front ++ octet ∷ rest) ≡ false)
    → (rest : List ℕ) → is_log ((front ++ octet ∷ []) ++ rest) ≡ false
grown front octet never rest = ap is_log (append_assoc front (octet ∷ []) rest) ∙ never rest

after_nothing : (octet : ℕ) (mark blank : Bool) → (octet == 0xEF) ≡ mark → is_blank octet ≡ blank → octet ≢ 60
    → MarginIs (cond mark margin.OneOctet (cond blank (margin.Blanks false) margin.Over)) (octet ∷ [])
after_nothing octet true blank mark_is blank_is other = grind (arith, nat_tests)
after_nothing octet false true mark_is blank_is other = (omega arith, rw blank_is refl)
after_nothing octet false false mark_is blank_is other = λ rest.
    ap (λ text. begins_tag (after_blanks text)) (unmarked octet rest mark_is) ∙ other_octet octet rest blank_is other

after_one : (octet : ℕ) (b : Bool) → (octet == 0xBB) ≡ b
    → MarginIs (cond b margin.TwoOctets margin.Over) (0xEF ∷ octet ∷ [])
after_one octet true is = grind (arith, nat_tests)
after_one octet false is = λ rest.
    ap (λ text. begins_tag (after_blanks text)) (half_marked octet rest is) ∙ no_log_of_mark (octet ∷ rest)

after_two : (octet : ℕ) (b : Bool) → (octet == 0xBF) ≡ b
    → MarginIs (cond b (margin.Blanks true) margin.Over) (0xEF ∷ 0xBB ∷ octet ∷ [])
after_two octet true is = record { blanks = []; whole = grind (arith, nat_tests); blank = refl }
after_two octet false is = λ rest.
    ap (λ text. begins_tag (after_blanks text)) (nearly_marked octet rest is) ∙ no_log_of_mark (0xBB ∷ octet ∷ rest)

after_marked : (front : List ℕ) (octet : ℕ) (b : Bool) → is_blank octet ≡ b → octet ≢ 60 → IsMarked front
    → MarginIs (cond b (margin.Blanks true) margin.Over) (front ++ octet ∷ [])
after_marked front octet true is other before = record {
  blanks = before.blanks ++ octet ∷ [];
  whole = ap (λ text. text ++ octet ∷ []) before.whole ∙ append_assoc (mark_if true) before.blanks (octet ∷ []);
  blank = blanks_more before.blanks octet before.blank is;
}
after_marked front octet false is other before = grown front octet (λ rest.
    ap (λ text. is_log (text ++ octet ∷ rest)) before.whole
    ∙ ap begins_tag (marked_front before.blanks (octet ∷ rest) before.blank) ∙ other_octet octet rest is other)

after_plain : (front : List ℕ) (octet : ℕ) (b : Bool) → is_blank octet ≡ b → octet ≢ 60 → 0 < length front
    → list_all is_blank front ≡ true → MarginIs (cond b (margin.Blanks false) margin.Over) (front ++ octet ∷ [])
after_plain front octet true is other some all =
    (omega (arith, length-append front (octet ∷ []), some), blanks_more front octet all is)
after_plain front octet false is other some all = grown front octet (λ rest.
    ap begins_tag (plain_front front (octet ∷ rest) some all) ∙ other_octet octet rest is other)

pub margin_grows : (before : Margin) (front : List ℕ) (octet : ℕ) → MarginIs before front
    → (may_begin before ≡ true → octet ≢ 60) → MarginIs (margin_after before octet) (front ++ octet ∷ [])
margin_grows margin.Nothing front octet is other =
    subst (λ f. MarginIs (margin_after margin.Nothing octet) (f ++ octet ∷ [])) (sym is)
    (after_nothing octet (octet == 0xEF) (is_blank octet) refl refl (other refl))
margin_grows margin.OneOctet front octet is other =
    subst (λ f. MarginIs (margin_after margin.OneOctet octet) (f ++ octet ∷ [])) (sym is)
    (after_one octet (octet == 0xBB) refl)
margin_grows margin.TwoOctets front octet is other =
    subst (λ f. MarginIs (margin_after margin.TwoOctets octet) (f ++ octet ∷ [])) (sym is)
    (after_two octet (octet == 0xBF) refl)
margin_grows (margin.Blanks true) front octet is other =
    after_marked front octet (is_blank octet) refl (other refl) is
margin_grows (margin.Blanks false) front octet is other =
    after_plain front octet (is_blank octet) refl (other refl) is.0 is.1
margin_grows margin.Over front octet is other = grown front octet (λ rest. is (octet ∷ rest))

-- ---- what follows the margin

no_text_begins : begins_tag (after_blanks []) ≡ false
unfolding after_blanks
no_text_begins = refl

nothing_begins : is_log [] ≡ false
unfolding after_mark after_blanks
nothing_begins = refl

half_alone : after_order_mark (0xEF ∷ []) ≡ 0xEF ∷ []
unfolding after_mark
half_alone = refl

nearly_alone : after_order_mark (0xEF ∷ 0xBB ∷ []) ≡ 0xEF ∷ 0xBB ∷ []
unfolding after_mark
nearly_alone = refl

-- a file that is no more than a margin is no log
pub margin_alone : (before : Margin) (front : List ℕ) → MarginIs before front → is_log front ≡ false
margin_alone margin.Nothing front is = ap is_log is ∙ nothing_begins
margin_alone margin.OneOctet front is =
    ap is_log is ∙ ap (λ text. begins_tag (after_blanks text)) half_alone ∙ no_log_of_mark []
margin_alone margin.TwoOctets front is =
    ap is_log is ∙ ap (λ text. begins_tag (after_blanks text)) nearly_alone ∙ no_log_of_mark (0xBB ∷ [])
margin_alone (margin.Blanks true) front is =
    ap is_log (is.whole ∙ sym (append-nil (mark_if true ++ is.blanks)))
    ∙ ap begins_tag (marked_front is.blanks [] is.blank) ∙ no_text_begins
margin_alone (margin.Blanks false) front is =
    ap is_log (sym (append-nil front)) ∙ ap begins_tag (plain_front front [] is.0 is.1) ∙ no_text_begins
margin_alone margin.Over front is = ap is_log (sym (append-nil front)) ∙ is []

-- a `<` after the margin begins a log
pub log_begins : (before : Margin) (front rest : List ℕ) → MarginIs before front → may_begin before ≡ true
    → is_log (front ++ 60 ∷ rest) ≡ true
log_begins margin.Nothing front rest is may = ap (λ text. is_log (text ++ 60 ∷ rest)) is ∙ here where
  here : is_log (60 ∷ rest) ≡ true
  here = ap (λ text. begins_tag (after_blanks text)) (unmarked 60 rest refl) ∙ ap begins_tag (no_blank 60 rest refl)
log_begins margin.OneOctet front rest is may = absurd cc
log_begins margin.TwoOctets front rest is may = absurd cc
log_begins (margin.Blanks true) front rest is may =
    ap (λ text. is_log (text ++ 60 ∷ rest)) is.whole
    ∙ ap begins_tag (marked_front is.blanks (60 ∷ rest) is.blank ∙ no_blank 60 rest refl)
log_begins (margin.Blanks false) front rest is may =
    ap begins_tag (plain_front front (60 ∷ rest) is.0 is.1 ∙ no_blank 60 rest refl)
log_begins margin.Over front rest is may = absurd cc
