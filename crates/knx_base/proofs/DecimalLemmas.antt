-- A decimal is read as its number, and only a decimal is.
use Rattle.std.proofs.Common.{◌≡◌, ℕ, ◌-◌, ◌^◌, ◌<◌, ◌≤◌, Bool, true, false, cond, List, [], ◌∷◌, length, get_or, Option, Some, None, Result, Ok, Err, ◌⊎◌, inl, inr, refl, sym, ap, ◌∙◌, arith}
use Rattle.std.specs.Prelude.{option_map, IfSome, IfNone}
use Rattle.std.specs.Fmt.{decimal}
use Rattle.std.specs.Str.{bytes_eq}
use Rattle.std.specs.Str.Parse.{AllDigits, digits_value, ParsesUnsigned}
use Rattle.std.specs.Result.{result_ok}
use Rattle.std.proofs.lemmas.Bool.{cases_lt, le-leb, lt-leb}
use Rattle.std.proofs.lemmas.Bool.Decides.{nat_tests}
use Rattle.std.proofs.lemmas.Fmt.{decimal_digit, decimal_nonempty, first_decimal, digits_decimal, digits_value-decimal, decimal-digits_value, parse-decimal}
use Rattle.std.proofs.lemmas.Slice.Eq.{bytes_eq-Decides}
use Rattle.std.proofs.lemmas.Str.Parse.{IsNumeralModel, not_in_digits, parse_plain}
use Rattle.knx_base.specs.Decimal.{IsDecimal, decimal_number, at_most, decimal_up_to}

-- A plus stands in front, or a zero before something else.
abbrev pub IsPadded : List ℕ → Type 0
IsPadded text = (get_or text 0 0 ≡ 43) ⊎ ((get_or text 0 0 ≡ 48) × (1 < length text))

pub own : IsNumeralModel (AllDigits 10) (digits_value 10)
own = record { to = λ ds d. d; from = λ ds d. d; same = λ ds d. refl }

pub decimal_number-decimal : (n : ℕ) → n < 2 ^ 64 → decimal_number (decimal n) ≡ Some n
unfolding decimal_number
decimal_number-decimal n small =
    let same : bytes_eq (decimal n) (decimal n) ≡ true = (bytes_eq-Decides (decimal n) (decimal n)).1 refl in
    rw (digits_value-decimal own n small, same) refl

chosen : (b : Bool) (x n : ℕ) → cond b (Some x) None ≡ Some n → (b ≡ true) × (x ≡ n)
chosen true x n e = (refl, cc)
chosen false x n e = absurd cc

pub decimal_number-is : (text : List ℕ) (n : ℕ) → decimal_number text ≡ Some n → IsDecimal text n
unfolding decimal_number
decimal_number-is text n e =
    let found = chosen (bytes_eq (decimal (digits_value 10 text)) text) (digits_value 10 text) n e in
    sym ((bytes_eq-Decides (decimal (digits_value 10 text)) text).0 found.0) ∙ ap decimal found.1

pub decimal_up_to-is : (most : ℕ) (text : List ℕ) (n : ℕ) → decimal_up_to most text ≡ Some n → (n ≤ most)
    × IsDecimal text n
unfolding decimal_up_to
decimal_up_to-is most text n e = by (decimal_number text) refl e
  where
    by : (o : Option ℕ) → decimal_number text ≡ o → at_most most o ≡ Some n → (n ≤ most) × IsDecimal text n
    by None is e = absurd cc
    by (Some m) is e = let m-is : m ≡ n = (chosen _ m n e).1 in
        (grind (arith, nat_tests), decimal_number-is text n (is ∙ ap (λ (k : ℕ). Some k) m-is))

pub decimal_up_to-decimal : (most : ℕ) (text : List ℕ) (n : ℕ) → n < 2 ^ 64 → n ≤ most → IsDecimal text n
    → decimal_up_to most text ≡ Some n
unfolding decimal_up_to
decimal_up_to-decimal most text n small within is = ap (λ (t : List ℕ). at_most most (decimal_number t)) is
    ∙ rw (decimal_number-decimal n small) (grind (arith, nat_tests))

-- What is no decimal up to the limit is not read.
pub decimal_up_to-none : (most : ℕ) (text : List ℕ) → ((n : ℕ) → n ≤ most → IsDecimal text n → ⊥)
    → decimal_up_to most text ≡ None
decimal_up_to-none most text without = by (decimal_up_to most text) refl
  where
    by : (o : Option ℕ) → decimal_up_to most text ≡ o → o ≡ None
    by None is = refl
    by (Some n) is = let found = decimal_up_to-is most text n is in absurd (without n found.0 found.1)

no_padded : (text : List ℕ) (n : ℕ) → IsPadded text → n < 2 ^ 64 → text ≡ decimal n → ⊥
no_padded text n (inl plus) small is = not_in_digits own (decimal n) 43 (digits_decimal own n small) (λ h. omega arith)
    0 (decimal_nonempty n small) (ap (λ (t : List ℕ). get_or t 0 0) (sym is) ∙ plus)
no_padded text n (inr zero_first) small is =
    elim (cases_lt 0 n) [
      | inl positive ↦ let first = first_decimal n positive small in let same : get_or (decimal n) 0 0 ≡ 48 =
          ap (λ (t : List ℕ). get_or t 0 0) (sym is) ∙ zero_first.0 in omega arith
      | inr none ↦ let zero_n : n ≡ 0 = omega arith in let one : text ≡ 48 ∷ [] = is ∙ ap decimal zero_n
          ∙ decimal_digit 0 (omega arith) in omega (arith, ap length one)
    ]

pub decimal_up_to-padded : (most : ℕ) (text : List ℕ) → most < 2 ^ 64 → IsPadded text → decimal_up_to most text ≡ None
decimal_up_to-padded most text wide padded =
    decimal_up_to-none most text (λ n within is. no_padded text n padded (omega arith) is)

-- What `parse` answers of a text that is not padded.
pub result_ok-parse : {E : Type 0} (text : List ℕ) (r : Result ℕ E) → ParsesUnsigned 64 10 text r → (IsPadded text → ⊥)
    → result_ok r ≡ decimal_up_to (2 ^ 64 - 1) text
result_ok-parse {E = E} text (Ok n) parses plain =
    let read : (AllDigits 10 text × (0 < length text) × (digits_value 10 text < 2 ^ 64)) × (n ≡ digits_value 10 text) =
    parse_plain own {E = E} 64 text (Ok n) parses (λ plus. plain (inl plus)) in
    let short : get_or text 0 0 ≡ 48 → length text ≡ 1 = λ zero_first. elim (cases_lt 1 (length text))
    [ inl long ↦ absurd (plain (inr (zero_first, long))) | inr le ↦ omega (arith, read.0.1) ] in
    let is : text ≡ decimal n =
    sym (decimal-digits_value own text read.0.0 read.0.1 short read.0.2) ∙ ap decimal (sym read.1) in
    sym (decimal_up_to-decimal (2 ^ 64 - 1) text n (omega (arith, read.0.2, read.1)) (omega (arith, read.0.2, read.1))
    is)
result_ok-parse text (Err fault) parses plain =
    sym (decimal_up_to-none (2 ^ 64 - 1) text (λ n within is. let parsed = parse-decimal 64 n text (Err fault)
    (omega arith) (omega arith) is parses in absurd cc))

-- The limit of the type and then a lower one are the lower one.
pub at_most-decimal_up_to : (most : ℕ) (text : List ℕ) → most < 2 ^ 64
    → at_most most (decimal_up_to (2 ^ 64 - 1) text) ≡ decimal_up_to most text
unfolding decimal_up_to
at_most-decimal_up_to most text wide = by (decimal_number text)
  where
    by : (o : Option ℕ) → at_most most (at_most (2 ^ 64 - 1) o) ≡ at_most most o
    by None = refl
    by (Some n) = elim (cases_lt n (2 ^ 64)) [
      | inl small ↦ rw (le-leb n (2 ^ 64 - 1) (omega arith)) refl
      | inr large ↦
          rw (lt-leb n (2 ^ 64 - 1) (omega arith), lt-leb n most (omega arith)) refl
    ]

-- ---- an answer of a value says what the form of that value says

pub answer_found : {A : Type 0} (value : A → ℕ) (form : ℕ → Type 0) (read : Option ℕ) (r : Option A)
    → option_map value r ≡ read → ((n : ℕ) → read ≡ Some n → form n) → IfSome r (λ a. form (value a))
answer_found value form read None is law = tt
answer_found value form read (Some a) is law = law (value a) (sym is)

pub answer_none : {A : Type 0} (value : A → ℕ) (form : ℕ → Type 0) (read : Option ℕ) (r : Option A)
    → option_map value r ≡ read → ((n : ℕ) → form n → read ≡ Some n) → IfNone r ((n : ℕ) → form n → ⊥)
answer_none value form read None is law = λ n formed. let found = law n formed in absurd cc
answer_none value form read (Some a) is law = tt

-- ---- the clauses of the reader

pub decimal_answer : (most : ℕ) (text : List ℕ) (r : Option ℕ) → most < 2 ^ 64 → r ≡ decimal_up_to most text
    → IfSome r (λ n. (n ≤ most) × IsDecimal text n) × IfNone r ((n : ℕ) → n ≤ most → IsDecimal text n → ⊥)
decimal_answer most text None wide is =
    (tt, λ n within formed. let found = decimal_up_to-decimal most text n (omega arith) within formed in absurd cc)
decimal_answer most text (Some n) wide is = (decimal_up_to-is most text n (sym is), tt)
