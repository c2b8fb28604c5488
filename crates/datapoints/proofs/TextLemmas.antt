-- The texts of numbers: their signs, points and digits.
use Rattle.std.proofs.Common.{◌≡◌, ◌≢◌, ℕ, ◌+◌, ◌-◌, ◌*◌, ◌/◌, ◌%◌, ◌^◌, ◌<◌, ◌≤◌, Bool, true, false, cond, List, [], ◌∷◌, ◌++◌, length, get_or, Option, Some, None, refl, sym, ap, ◌∙◌, arith, inl, inr}
use Rattle.std.specs.Prelude.{option_map, nat_le, nat_lt, IfSome, IfNone}
use Rattle.std.specs.Borrow.{Bor}
use Rattle.std.specs.Fmt.{decimal, sign_text}
use Rattle.std.specs.Str.Parse.{AllDigits, digits_value}
use Rattle.std.proofs.lemmas.Fmt.{digits_decimal, decimal_nonempty, decimal_injective}
use Rattle.std.proofs.lemmas.Str.Parse.{IsNumeralModel, not_in_digits}
use Rattle.std.proofs.lemmas.Str.Pattern.{IsSplitOnceResult, split_after, split_parts}
use Rattle.std.proofs.lemmas.List.{get_or_append_left}
use Rattle.std.proofs.lemmas.Bool.{cases_lt, le-leb, lt-leb}
use Rattle.std.proofs.lemmas.Bool.Decides.{nat_tests}
use Rattle.knx_base.specs.Decimal.{IsDecimal}
use Rattle.datapoints.specs.Values.{two_digits, hundredths, signed_text}
use Rattle.datapoints.specs.Parsing.{NamesNumber, CutsPoint, IsOnlySign}

own : IsNumeralModel (AllDigits 10) (digits_value 10)
own = record { to = λ ds d. d; from = λ ds d. d; same = λ ds d. refl }

decimal_lacks : (octet n : ℕ) → octet < 48 → n < 2 ^ 64 → (i : ℕ) → i < length (decimal n)
    → get_or (decimal n) i 0 ≢ octet
decimal_lacks octet n low small =
    not_in_digits own (decimal n) octet (digits_decimal own n small) (λ digit. omega arith)

pub decimal_plain : (n : ℕ) → n < 2 ^ 64 → get_or (decimal n) 0 0 ≢ 45
decimal_plain n small = decimal_lacks 45 n (omega arith) small 0 (decimal_nonempty n small)

pub hundredths_plain : (n : ℕ) → n < 2 ^ 64 → get_or (hundredths n) 0 0 ≢ 45
hundredths_plain n small =
    let plain = decimal_plain (n / 100) (omega arith) in
    let some = decimal_nonempty (n / 100) (omega arith) in
    λ minus. plain (sym (get_or_append_left (decimal (n / 100)) (46 ∷ two_digits (n % 100)) 0 0 some) ∙ minus)

-- ---- the point

pub cuts_point : (text : List ℕ) (r : Option (Bor (List ℕ) × Bor (List ℕ))) → IsSplitOnceResult 46 text r
    → CutsPoint text (option_map (λ cut. (cut.0.now, cut.1.now)) r)
cuts_point text None cut = λ n small is.
    split_after 46 text (decimal (n / 100)) (two_digits (n % 100)) None cut (omega arith) is
    (decimal_lacks 46 (n / 100) (omega arith) (omega arith))
cuts_point text (Some parts) cut = (
  (split_parts 46 text (Some parts) cut (omega arith)).0,
  λ n small is.
      split_after 46 text (decimal (n / 100)) (two_digits (n % 100)) (Some parts) cut (omega arith) is
      (decimal_lacks 46 (n / 100) (omega arith) (omega arith)),
)

pub hundredths_of : (whole part : ℕ) → part < 100
    → hundredths (whole * 100 + part) ≡ decimal whole ++ 46 ∷ two_digits part
hundredths_of whole part small =
    let above : (whole * 100 + part) / 100 ≡ whole = omega arith in
    let below : (whole * 100 + part) % 100 ≡ part = omega arith in
    ap (λ n. decimal n ++ 46 ∷ two_digits ((whole * 100 + part) % 100)) above
    ∙ ap (λ n. decimal whole ++ 46 ∷ two_digits n) below

pub two_digits_injective : (a b : ℕ) → a < 100 → b < 100 → two_digits a ≡ two_digits b → a ≡ b
two_digits_injective a b small_a small_b same =
    let tens : 48 + a / 10 ≡ 48 + b / 10 = cc in
    let ones : 48 + a % 10 ≡ 48 + b % 10 = cc in
    omega arith

-- what was read as so many hundredths is no other number's text
pub only_hundredths : (whole part n : ℕ) (front back : List ℕ) → whole < 2 ^ 60 → part < 100 → n < 10 ^ 8
    → front ≡ decimal whole → back ≡ two_digits part
    → (front ≡ decimal (n / 100)) × (back ≡ two_digits (n % 100)) → n ≡ whole * 100 + part
only_hundredths whole part n front back small part_small n_small front_is back_is parts =
    let whole_is = decimal_injective whole (n / 100) (omega arith) (omega arith) (sym front_is ∙ parts.0) in
    let part_is = two_digits_injective part (n % 100) part_small (omega arith) (sym back_is ∙ parts.1) in
    omega arith

-- ---- the sign

pub no_minus : (text : List ℕ) → ((rest : List ℕ) → text ≢ 45 ∷ rest) → get_or text 0 0 ≢ 45
no_minus [] without = λ h. omega arith
no_minus (x ∷ rest) without = λ h. without rest (ap (λ octet. octet ∷ rest) h)

pub only_plain : (text : List ℕ) → get_or text 0 0 ≢ 45 → IsOnlySign text false text
only_plain text plain true body body_plain is = absurd (plain (ap (λ l. get_or l 0 0) is))
only_plain text plain false body body_plain is = (refl, sym is)

pub only_minus : (text rest : List ℕ) → text ≡ 45 ∷ rest → IsOnlySign text true rest
only_minus text rest minus true body body_plain is = (refl, cc)
only_minus text rest minus false body body_plain is =
    absurd (body_plain (ap (λ l. get_or l 0 0) (sym is ∙ minus)))

-- ---- two's complement

either_bound : (b : Bool) (m n most : ℕ) → m < most → n < most → cond b m n < most
either_bound true m n most low high = low
either_bound false m n most low high = high

signed_parts : (half n : ℕ) (text rest : List ℕ) (negative : Bool) → half ≤ 2 ^ 31 → n < 2 * half
    → IsOnlySign text negative rest → text ≡ signed_text half n
    → (nat_le half n ≡ negative) × (decimal (cond (nat_lt n half) n (2 * half - n)) ≡ rest)
signed_parts half n text rest negative most small only is =
    only (nat_le half n) (decimal (cond (nat_lt n half) n (2 * half - n)))
    (decimal_plain (cond (nat_lt n half) n (2 * half - n))
    (either_bound (nat_lt n half) n (2 * half - n) (2 ^ 64) (omega arith) (omega arith))) is

-- after a minus stands how far the number is below zero
pub minus_number : (half n : ℕ) (text rest : List ℕ) → half ≤ 2 ^ 31 → n < 2 * half → IsOnlySign text true rest
    → text ≡ signed_text half n → (half ≤ n) × (rest ≡ decimal (2 * half - n))
minus_number half n text rest most small only is =
    let parts = signed_parts half n text rest true most small only is in
    elim (cases_lt n half) [
      | inl below ↦ absurd (let no = lt-leb half n below in cc)
      | inr above ↦ (above, sym parts.1 ∙ ap decimal (grind (arith, nat_tests)))
    ]

plus_number : (half n : ℕ) (text rest : List ℕ) → half ≤ 2 ^ 31 → n < 2 * half → IsOnlySign text false rest
    → text ≡ signed_text half n → (n < half) × (rest ≡ decimal n)
plus_number half n text rest most small only is =
    let parts = signed_parts half n text rest false most small only is in
    elim (cases_lt n half) [
      | inl below ↦ (below, sym parts.1 ∙ ap decimal (grind (arith, nat_tests)))
      | inr above ↦ absurd (let no = le-leb half n above in cc)
    ]

pub plain_text : (half n : ℕ) → n < half → signed_text half n ≡ decimal n
plain_text half n below =
    let sign = lt-leb half n below in
    let number : cond (nat_lt n half) n (2 * half - n) ≡ n = grind (arith, nat_tests) in
    ap (λ b. sign_text b ++ decimal (cond (nat_lt n half) n (2 * half - n))) sign ∙ ap decimal number

-- without a minus it is a decimal below the half
pub signed_plain : (half : ℕ) (text rest : List ℕ) (found : Option ℕ) → 1 ≤ half → half ≤ 2 ^ 31
    → IsOnlySign text false rest → text ≡ rest → IfSome found (λ n. (n ≤ half - 1) × IsDecimal rest n)
    → IfNone found ((n : ℕ) → n ≤ half - 1 → IsDecimal rest n → ⊥)
    → NamesNumber (2 * half) (signed_text half) text found
signed_plain half text rest None least most only whole some none = λ n small is.
    let number = plus_number half n text rest most small only is in none n (omega (arith, number.0)) number.1
signed_plain half text rest (Some n) least most only whole some none =
    (omega (arith, some.0), whole ∙ some.1 ∙ sym (plain_text half n (omega (arith, some.0))))

-- a text of a whole part, a point and two digits
pub hundredths_read : (text front back : List ℕ) (whole part sum : ℕ) → text ≡ front ++ 46 ∷ back
    → front ≡ decimal whole → whole ≤ 999999 → part < 100 → back ≡ two_digits part → sum ≡ part
    → (whole * 100 + sum < 10 ^ 8) × (text ≡ hundredths (whole * 100 + sum))
hundredths_read text front back whole part sum is front_is few small back_is same = (
  omega arith,
  is ∙ ap (λ l. l ++ 46 ∷ back) front_is ∙ ap (λ l. decimal whole ++ 46 ∷ l) back_is
      ∙ sym (hundredths_of whole part small) ∙ ap (λ n. hundredths (whole * 100 + n)) (sym same),
)
