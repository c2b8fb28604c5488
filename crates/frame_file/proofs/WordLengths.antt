-- A word of a line is no longer than the line, so the octets that it writes have room.
use Rattle.std.proofs.Common.{◌≡◌, ℕ, ◌+◌, ◌≤◌, Bool, true, false, if◌then◌else◌, nat_lt, List, [], ◌∷◌, length, Option, Some, None, Ok, Err, refl, sym, ap, ◌∙◌, arith}
use Rattle.std.specs.List.{filter, list_all, slice_split, onto_first}
use Rattle.std.proofs.lemmas.Bool.Decides.{nat_tests}
use Rattle.std.proofs.lemmas.List.Splits.{slice_split-cons_yes, slice_split-cons_no}
use Rattle.text_lines.specs.Lines.{most_octets, is_blank, is_text, is_word, words_of, is_comment, line_of}
use Rattle.knx_base.specs.declared.cause.Cause.TheVariants as cause

-- how many octets the parts have together
abbrev octets_in : List (List ℕ) → ℕ
octets_in [] = 0
octets_in (part ∷ parts) = length part + octets_in parts

octets_in-cons : (part : List ℕ) (parts : List (List ℕ)) → octets_in (part ∷ parts) ≡ length part + octets_in parts
octets_in-cons part parts = refl

octets_in-onto_first : (octet : ℕ) (parts : List (List ℕ)) → octets_in (onto_first octet parts) ≡ octets_in parts + 1
octets_in-onto_first octet [] = omega (arith, octets_in-cons (octet ∷ []) [])
octets_in-onto_first octet (part ∷ parts) =
    omega (arith, octets_in-cons part parts, octets_in-cons (octet ∷ part) parts)

parts_fit : (line : List ℕ) → octets_in (slice_split is_blank line) ≤ length line
parts_fit [] = omega arith
parts_fit (octet ∷ line) = by (is_blank octet) refl (parts_fit line)
  where
    by : (b : Bool) → is_blank octet ≡ b → octets_in (slice_split is_blank line) ≤ length line
        → octets_in (slice_split is_blank (octet ∷ line)) ≤ length (octet ∷ line)
    by true e rest = omega (
      arith,
      rest,
      ap octets_in (slice_split-cons_yes is_blank octet line e),
      octets_in-cons []
          (slice_split is_blank line),
    )
    by false e rest = omega (
      arith,
      rest,
      ap octets_in (slice_split-cons_no is_blank octet line e),
      octets_in-onto_first
          octet (slice_split is_blank line),
    )

words_fit : (parts : List (List ℕ)) → octets_in (filter is_word parts) ≤ octets_in parts
words_fit [] = omega arith
words_fit ([] ∷ parts) = omega (arith, words_fit parts, octets_in-cons [] parts)
words_fit ((octet ∷ part) ∷ parts) = omega (
  arith,
  words_fit parts,
  octets_in-cons (octet ∷ part) parts,
  octets_in-cons
      (octet ∷ part) (filter is_word parts),
)

-- a line that has words is not too long
said_words : (long comment text : Bool) (of_line words : List (List ℕ))
    → (if long then Err cause.Long else if comment then Ok None else if text then Ok (Some of_line)
    else Err cause.Words) ≡ Ok (Some words)
    → (long ≡ false) × (of_line ≡ words)
said_words true comment text of_line words e = absurd cc
said_words false true text of_line words e = absurd cc
said_words false false true of_line words e = (refl, cc)
said_words false false false of_line words e = absurd cc

pub word_short : (line word : List ℕ) (found : Option (List (List ℕ))) (words rest : List (List ℕ)) → found ≡ Some words
    → Ok found ≡ line_of line → words ≡ word ∷ rest → length word ≤ 1024
word_short line word found words rest is says first =
    let said = said_words (nat_lt most_octets (length line)) (is_comment (words_of line)) (list_all is_text line)
    (words_of line) words (sym says ∙ ap (λ (o : Option (List (List ℕ))). Ok o) is) in
    let short : length line ≤ 1024 = grind (arith, nat_tests, said.0) in
    omega (
      arith,
      short,
      ap octets_in (said.1 ∙ first),
      octets_in-cons word rest,
      words_fit (slice_split is_blank line),
      parts_fit line,
    )
