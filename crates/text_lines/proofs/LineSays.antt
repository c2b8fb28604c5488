-- A line is skipped exactly where its words are none or a comment.
use Rattle.std.proofs.Common.{◌≡◌, ℕ, ◌++◌, ◌⊎◌, Bool, true, false, List, [], ◌∷◌, get_or, inl, inr, refl, sym, ap, ◌∙◌, arith}
use Rattle.std.specs.List.{list_all}
use Rattle.std.proofs.lemmas.Bool.Decides.{nat_tests}
use Rattle.text_lines.specs.Lines.{is_blank, words_of, is_comment, IsSkipped}
use Rattle.text_lines.proofs.LineTexts.{words_of-blank, word_begins, both_true}

words_after_blanks : (blanks rest : List ℕ) → list_all is_blank blanks ≡ true
    → words_of (blanks ++ rest) ≡ words_of rest
words_after_blanks [] rest all = refl
words_after_blanks (octet ∷ blanks) rest all =
    let both = both_true (is_blank octet) (list_all is_blank blanks) all in words_of-blank octet (blanks ++ rest) both.0
    ∙ words_after_blanks blanks rest both.1

comment_first : (rest : List ℕ) → (rest ≡ []) ⊎ (get_or rest 0 0 ≡ 35) → is_comment (words_of rest) ≡ true
comment_first [] none = refl
comment_first (octet ∷ rest) (inl none) = absurd cc
comment_first (octet ∷ rest) (inr is) =
    let letter : is_blank octet ≡ false = rw is refl in
    let sign : is_comment ((octet ∷ []) ∷ []) ≡ true = rw is refl in
    ap is_comment (word_begins octet rest letter) ∙ sign

skipped_says : (line : List ℕ) → IsSkipped line → is_comment (words_of line) ≡ true
skipped_says line skipped = ap (λ (text : List ℕ). is_comment (words_of text)) skipped.whole
    ∙ ap is_comment (words_after_blanks skipped.blanks skipped.rest skipped.are_blank)
    ∙ comment_first skipped.rest skipped.comment

more_blank : (octet : ℕ) (blanks : List ℕ) → is_blank octet ≡ true → list_all is_blank blanks ≡ true
    → list_all is_blank (octet ∷ blanks) ≡ true
more_blank octet blanks blank rest = rw blank rest

pub says_skipped : (line : List ℕ) → is_comment (words_of line) ≡ true → IsSkipped line
says_skipped [] is = record { blanks = []; rest = []; whole = refl; are_blank = refl; comment = inl refl }
says_skipped (octet ∷ line) is = by (is_blank octet) refl (says_skipped line)
  where
    by : (b : Bool) → is_blank octet ≡ b → (is_comment (words_of line) ≡ true → IsSkipped line)
        → IsSkipped (octet ∷ line)
    by true blank rest =
        let later = rest (ap is_comment (sym (words_of-blank octet line blank)) ∙ is) in
        record {
          blanks = octet ∷ later.blanks;
          rest = later.rest;
          whole = ap (λ (text : List ℕ). octet ∷ text) later.whole;
          are_blank = more_blank octet later.blanks blank later.are_blank;
          comment = later.comment;
        }
    by false letter rest =
        let sign : is_comment ((octet ∷ []) ∷ []) ≡ true = ap is_comment (sym (word_begins octet line letter)) ∙ is in
        record {
          blanks = [];
          rest = octet ∷ line;
          whole = refl;
          are_blank = refl;
          comment = inr (grind (arith, nat_tests, sign));
        }

pub not_skipped : (line : List ℕ) → is_comment (words_of line) ≡ false → IsSkipped line → ⊥
not_skipped line none skipped = let found = skipped_says line skipped in absurd cc
