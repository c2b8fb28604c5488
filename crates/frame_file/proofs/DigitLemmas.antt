-- A line that is digits alone is one word, so it says the octets that they write.
use Rattle.std.proofs.Common.{◌≡◌, ℕ, ◌<◌, ◌≤◌, true, false, List, [], ◌∷◌, length, nat_lt, Some, Result, Ok, Err, refl, sym, ap, ◌∙◌, arith}
use Rattle.std.specs.Prelude.{◌==◌}
use Rattle.std.specs.List.{AllPass, filter, list_all, slice_split}
use Rattle.std.proofs.lemmas.Bool.Decides.{nat_tests}
use Rattle.std.proofs.lemmas.List.Elements.{All-head, All-tail}
use Rattle.std.proofs.lemmas.List.Splits.{slice_split-cons_no}
use Rattle.hex.specs.Hex.{decode_of, is_hex_digit}
use Rattle.hex.specs.declared.error.FromHexError.{FromHexError}
use Rattle.hex.proofs.HexLemmas.{decode_of-ok}
use Rattle.text_lines.specs.Lines.{most_octets, is_blank, is_text, is_word, words_of, line_of}
use Rattle.frame_file.specs.Records.{record_of, record_of_digits, record_of_judged}

digit_plain : (octet : ℕ) → is_hex_digit octet ≡ true
    → (is_blank octet ≡ false) × (is_text octet ≡ true) × ((octet == 35) ≡ false)
digit_plain octet e = (grind (arith, nat_tests, e), grind (arith, nat_tests, e), grind (arith, nat_tests, e))

one_part : (line : List ℕ) → AllPass is_hex_digit line → slice_split is_blank line ≡ line ∷ []
one_part [] all = refl
one_part (octet ∷ line) all =
    let plain = digit_plain octet (All-head (λ (c : ℕ). is_hex_digit c ≡ true) octet line all) in
    let rest = one_part line (All-tail (λ (c : ℕ). is_hex_digit c ≡ true) octet line all) in
    slice_split-cons_no is_blank octet line plain.0 ∙ rw rest refl

all_text : (line : List ℕ) → AllPass is_hex_digit line → list_all is_text line ≡ true
all_text [] all = refl
all_text (octet ∷ line) all =
    let plain = digit_plain octet (All-head (λ (c : ℕ). is_hex_digit c ≡ true) octet line all) in
    let rest = all_text line (All-tail (λ (c : ℕ). is_hex_digit c ≡ true) octet line all) in
    rw (plain.1, rest) refl

-- what a line says whose one word begins with no `#`
one_word : (octet : ℕ) (line : List ℕ) → length (octet ∷ line) ≤ 1024 → AllPass is_hex_digit (octet ∷ line)
    → line_of (octet ∷ line) ≡ Ok (Some ((octet ∷ line) ∷ []))
one_word octet line short all =
    let plain = digit_plain octet (All-head (λ (c : ℕ). is_hex_digit c ≡ true) octet line all) in
    let words : words_of (octet ∷ line) ≡ (octet ∷ line) ∷ [] = ap (filter is_word) (one_part (octet ∷ line) all) in
    let text = all_text (octet ∷ line) all in
    let fits : nat_lt most_octets (length (octet ∷ line)) ≡ false = grind (arith, nat_tests, short) in
    rw (fits, words, plain.2, text) refl

digits_decode : (line octets : List ℕ) (decoded : Result (List ℕ) FromHexError) → decoded ≡ decode_of line
    → record_of_digits decoded ≡ Ok (Some octets) → AllPass is_hex_digit line
digits_decode line octets (Ok bytes) is says = (decode_of-ok line bytes (sym is)).1
digits_decode line octets (Err fault) is says = absurd cc

pub digits_say : (line octets : List ℕ) → 0 < length line → length line ≤ 1024
    → record_of_digits (decode_of line) ≡ Ok (Some octets) → record_of line ≡ Ok (Some octets)
digits_say [] octets some short says = absurd (omega arith)
digits_say (octet ∷ line) octets some short says =
    ap record_of_judged (one_word octet line short (digits_decode (octet ∷ line) octets _ refl says)) ∙ says
