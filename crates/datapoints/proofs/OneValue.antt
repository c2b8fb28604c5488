-- A text is of the octets of one value, but for a number's forms with other exponents.
use Rattle.std.proofs.Common.{◌≡◌, ◌≢◌, ℕ, ◌+◌, ◌-◌, ◌*◌, ◌/◌, ◌%◌, ◌^◌, ◌<◌, ◌≤◌, Bool, true, false, cond, List, [], ◌∷◌, ◌++◌, length, length-append, take, drop, get_or, refl, sym, ap, ◌∙◌, arith, inl, inr, nat_lt}
use Rattle.std.specs.Prelude.{codes}
use Rattle.std.specs.Int.{Width, byte_len, to_be_bytes, w8, w16, w32}
use Rattle.std.specs.Fmt.{decimal, sign_text}
use Rattle.std.proofs.Math.Seq.{take-append_seam, drop-append_seam}
use Rattle.std.proofs.Math.Nat.{mul-div_cancel}
use Rattle.std.proofs.Math.Pow.{pow_mono}
use Rattle.std.proofs.lemmas.Bool.{cases_lt, le-leb, leb-true, leb-false}
use Rattle.std.proofs.lemmas.Bool.Decides.{nat_tests}
use Rattle.std.proofs.lemmas.Fmt.{decimal_injective}
use Rattle.std.proofs.lemmas.List.{append_cancel_right}
use Rattle.datapoints.specs.declared.dpt.Dpt.{Dpt}
use Rattle.datapoints.specs.declared.dpt.Dpt.TheVariants.{Switch, Scaling, U8, U16, U32, I8, I16, I32, Hundredths, Time, Date, Text14}
use Rattle.datapoints.specs.Values.{two_digits, hundredths, scaling_text, signed_text, is_negative, exponent_of, magnitude_of, float_text, filled, IsNumber, IsFloat, IsTime, IsDay, IsCharacters, IsSwitch, HasValue, exponent_in}
use Rattle.datapoints.proofs.TextLemmas.{decimal_plain, hundredths_plain, plain_text}
use Rattle.datapoints.proofs.FloatLemmas.{magnitude_bound}

-- ---- texts of numbers

parts_same : (front other back rest : List ℕ) → length back ≡ length rest → front ++ back ≡ other ++ rest
    → (front ≡ other) × (back ≡ rest)
parts_same front other back rest size same =
    let sizes : length front ≡ length other =
    omega (arith, size, sym (length-append front back) ∙ ap length same ∙ length-append other rest) in (
      sym (take-append_seam front back) ∙ ap (take (length front)) same ∙ ap (λ n. take n (other ++ rest)) sizes
          ∙ take-append_seam other rest,
      sym (drop-append_seam front back) ∙ ap (drop (length front)) same ∙ ap (λ n. drop n (other ++ rest)) sizes
          ∙ drop-append_seam other rest,
    )

hundredths_injective : (a b : ℕ) → a < 2 ^ 60 → b < 2 ^ 60 → hundredths a ≡ hundredths b → a ≡ b
hundredths_injective a b small_a small_b same =
    let parts = parts_same (decimal (a / 100)) (decimal (b / 100)) (46 ∷ two_digits (a % 100))
    (46 ∷ two_digits (b % 100)) refl same in
    let whole = decimal_injective (a / 100) (b / 100) (omega arith) (omega arith) parts.0 in
    let back : 46 ∷ two_digits (a % 100) ≡ 46 ∷ two_digits (b % 100) = parts.1 in
    let tens : 48 + a % 100 / 10 ≡ 48 + b % 100 / 10 = cc back in
    let ones : 48 + a % 100 % 10 ≡ 48 + b % 100 % 10 = cc back in
    omega (arith, whole, tens, ones)

scaling_injective : (a b : ℕ) → a < 256 → b < 256 → scaling_text a ≡ scaling_text b → a ≡ b
scaling_injective a b small_a small_b same =
    let parts = hundredths_injective (a * 10000 / 255) (b * 10000 / 255) (omega arith) (omega arith) same in
    omega (arith, parts)

minus_text : (half n : ℕ) → half ≤ n → signed_text half n ≡ 45 ∷ decimal (2 * half - n)
minus_text half n above =
    let sign = le-leb half n above in
    let number : cond (nat_lt n half) n (2 * half - n) ≡ 2 * half - n = grind (arith, nat_tests) in
    ap (λ b. sign_text b ++ decimal (cond (nat_lt n half) n (2 * half - n))) sign ∙ ap (λ m. 45 ∷ decimal m) number

no_minus_there : (a : ℕ) (rest : List ℕ) → a < 2 ^ 64 → decimal a ≢ 45 ∷ rest
no_minus_there a rest small = λ is. decimal_plain a small (ap (λ l. get_or l 0 0) is)

signed_injective : (half : ℕ) → half ≤ 2 ^ 31 → (a b : ℕ) → a < 2 * half → b < 2 * half
    → signed_text half a ≡ signed_text half b → a ≡ b
signed_injective half most a b small_a small_b same = elim (cases_lt a half) [
  | inl plain ↦ elim (cases_lt b half) [
    | inl other ↦ decimal_injective a b (omega arith) (omega arith)
        (sym (plain_text half a plain) ∙ same ∙ plain_text half b other)
    | inr other ↦ absurd (no_minus_there a (decimal (2 * half - b)) (omega arith)
        (sym (plain_text half a plain) ∙ same ∙ minus_text half b other))
  ]
  | inr minus ↦ elim (cases_lt b half) [
    | inl other ↦ absurd (no_minus_there b (decimal (2 * half - a)) (omega arith)
        (sym (plain_text half b other) ∙ sym same ∙ minus_text half a minus))
    | inr other ↦
        let both : 45 ∷ decimal (2 * half - a) ≡ 45 ∷ decimal (2 * half - b) =
        sym (minus_text half a minus) ∙ same ∙ minus_text half b other in
        let digits : decimal (2 * half - a) ≡ decimal (2 * half - b) = cc both in
        let numbers = decimal_injective (2 * half - a) (2 * half - b) (omega arith) (omega arith) digits in
        omega (arith, numbers, minus, other)
  ]
]

-- ---- octets

one_number : (w : Width) (spelling : ℕ → List ℕ) (octets other text : List ℕ)
    → ((a b : ℕ) → a < 256 ^ byte_len w → b < 256 ^ byte_len w → spelling a ≡ spelling b → a ≡ b)
    → IsNumber w spelling octets text → IsNumber w spelling other text → octets ≡ other
one_number w spelling octets other text injective p q =
    p.octets_are
    ∙ ap (to_be_bytes w) (injective p.number q.number p.bound q.bound (sym p.spelled ∙ q.spelled))
    ∙ sym q.octets_are

one_time : (octets other text : List ℕ) → IsTime octets text → IsTime other text → octets ≡ other
one_time octets other text p q =
    let same = sym p.spelled ∙ q.spelled in
    let day : 48 + p.day ≡ 48 + q.day = cc in
    let h1 : 48 + p.hour / 10 ≡ 48 + q.hour / 10 = cc in
    let h0 : 48 + p.hour % 10 ≡ 48 + q.hour % 10 = cc in
    let m1 : 48 + p.minute / 10 ≡ 48 + q.minute / 10 = cc in
    let m0 : 48 + p.minute % 10 ≡ 48 + q.minute % 10 = cc in
    let s1 : 48 + p.second / 10 ≡ 48 + q.second / 10 = cc in
    let s0 : 48 + p.second % 10 ≡ 48 + q.second % 10 = cc in
    let first : 32 * p.day + p.hour ≡ 32 * q.day + q.hour = omega (arith, day, h1, h0) in
    let minutes : p.minute ≡ q.minute = omega (arith, m1, m0) in
    let seconds : p.second ≡ q.second = omega (arith, s1, s0) in
    p.octets_are ∙ (λ i. first i ∷ minutes i ∷ seconds i ∷ []) ∙ sym q.octets_are

one_day : (octets other text : List ℕ) → IsDay octets text → IsDay other text → octets ≡ other
one_day octets other text p q =
    let same = sym p.spelled ∙ q.spelled in
    let y1 : 48 + p.year / 10 ≡ 48 + q.year / 10 = cc in
    let y0 : 48 + p.year % 10 ≡ 48 + q.year % 10 = cc in
    let m1 : 48 + p.month / 10 ≡ 48 + q.month / 10 = cc in
    let m0 : 48 + p.month % 10 ≡ 48 + q.month % 10 = cc in
    let d1 : 48 + p.day / 10 ≡ 48 + q.day / 10 = cc in
    let d0 : 48 + p.day % 10 ≡ 48 + q.day % 10 = cc in
    let years : p.year ≡ q.year = omega (arith, y1, y0) in
    let months : p.month ≡ q.month = omega (arith, m1, m0) in
    let days : p.day ≡ q.day = omega (arith, d1, d0) in
    p.octets_are ∙ (λ i. days i ∷ months i ∷ years i ∷ []) ∙ sym q.octets_are

one_row : (octets other text : List ℕ) → IsCharacters octets text → IsCharacters other text → octets ≡ other
one_row octets other text p q =
    let same = sym p.spelled ∙ q.spelled in
    let behind : p.characters ++ 34 ∷ [] ≡ q.characters ++ 34 ∷ [] = cc in
    p.octets_are ∙ ap filled (append_cancel_right p.characters q.characters (34 ∷ []) behind) ∙ sym q.octets_are

same_bit : (b c : Bool) → cond b (codes "on") (codes "off") ≡ cond c (codes "on") (codes "off") → b ≡ c
same_bit true true same = refl
same_bit false false same = refl
same_bit true false same = absurd (let sizes : 2 ≡ 3 = ap length same in omega arith)
same_bit false true same = absurd (let sizes : 3 ≡ 2 = ap length same in omega arith)

one_switch : (octets other text : List ℕ) → IsSwitch octets text → IsSwitch other text → octets ≡ other
one_switch octets other text p q =
    p.octets_are ∙ ap (λ (b : Bool). cond b 1 0 ∷ []) (same_bit p.is_on q.is_on (sym p.spelled ∙ q.spelled))
    ∙ sym q.octets_are

-- ---- numbers with an exponent

sign_same : (b c : Bool) (digits others : List ℕ) → get_or digits 0 0 ≢ 45 → get_or others 0 0 ≢ 45
    → sign_text b ++ digits ≡ sign_text c ++ others → (b ≡ c) × (digits ≡ others)
sign_same true true digits others plain plain' same = (refl, cc same)
sign_same false false digits others plain plain' same = (refl, same)
sign_same true false digits others plain plain' same = absurd (plain' (ap (λ l. get_or l 0 0) (sym same)))
sign_same false true digits others plain plain' same = absurd (plain (ap (λ l. get_or l 0 0) same))

-- the same sign, and as many hundredths
pub float_same : (a b : ℕ) → float_text a ≡ float_text b
    → (is_negative a ≡ is_negative b) × (magnitude_of a ≡ magnitude_of b)
float_same a b same =
    let small_a = magnitude_bound a in
    let small_b = magnitude_bound b in
    let parts = sign_same (is_negative a) (is_negative b) (hundredths (magnitude_of a)) (hundredths (magnitude_of b))
    (hundredths_plain (magnitude_of a) (omega arith)) (hundredths_plain (magnitude_of b) (omega arith)) same in
    (parts.0, hundredths_injective (magnitude_of a) (magnitude_of b) (omega arith) (omega arith) parts.1)

steps_same : (m n exponent : ℕ) → m * 2 ^ exponent ≡ n * 2 ^ exponent → m ≡ n
steps_same m n exponent same =
    let positive : 2 ^ 0 ≤ 2 ^ exponent = pow_mono {i = 0} {j = exponent} (omega arith) in
    sym (mul-div_cancel m positive) ∙ ap (λ product. product / 2 ^ exponent) same ∙ mul-div_cancel n positive

-- how many steps of its exponent the number has
abbrev steps_of : ℕ → ℕ
steps_of n = cond (is_negative n) (2048 - n % 2048) (n % 2048)

form_same : (a b : ℕ) → a < 65536 → b < 65536 → exponent_of a ≡ exponent_of b → is_negative a ≡ is_negative b
    → magnitude_of a ≡ magnitude_of b → a ≡ b
form_same a b small_a small_b exponents signs magnitudes =
    by (is_negative b) signs refl (steps_same (steps_of a) (steps_of b) (exponent_of a)
    (magnitudes ∙ ap (λ exponent. steps_of b * 2 ^ exponent) (sym exponents)))
  where
    by : (negative : Bool) → is_negative a ≡ negative → is_negative b ≡ negative → steps_of a ≡ steps_of b → a ≡ b
    by true a_is b_is steps =
        let a_high = leb-true 32768 a a_is in
        let b_high = leb-true 32768 b b_is in
        let same : 2048 - a % 2048 ≡ 2048 - b % 2048 =
        ap (λ n. cond n (2048 - a % 2048) (a % 2048)) (sym a_is) ∙ steps
        ∙ ap (λ n. cond n (2048 - b % 2048) (b % 2048)) b_is in
        omega (arith, a_high, b_high, same, exponents)
    by false a_is b_is steps =
        let a_low = leb-false 32768 a a_is in
        let b_low = leb-false 32768 b b_is in
        let same : a % 2048 ≡ b % 2048 =
        ap (λ n. cond n (2048 - a % 2048) (a % 2048)) (sym a_is) ∙ steps
        ∙ ap (λ n. cond n (2048 - b % 2048) (b % 2048)) b_is in
        omega (arith, a_low, b_low, same, exponents)

pub exponent_there : (n : ℕ) → n < 65536 → exponent_in (to_be_bytes w16 n) ≡ exponent_of n
exponent_there n small = omega arith

-- of one text there is one form with each exponent
pub one_form : (octets other text : List ℕ) → IsFloat octets text → IsFloat other text
    → exponent_in octets ≡ exponent_in other → octets ≡ other
one_form octets other text p q same =
    let parts = float_same p.number q.number (sym p.spelled ∙ q.spelled) in
    let exponents : exponent_of p.number ≡ exponent_of q.number =
    sym (exponent_there p.number p.bound) ∙ ap exponent_in (sym p.octets_are) ∙ same ∙ ap exponent_in q.octets_are
    ∙ exponent_there q.number q.bound in
    p.octets_are ∙ ap (to_be_bytes w16) (form_same p.number q.number p.bound q.bound exponents parts.0 parts.1)
    ∙ sym q.octets_are

pub one_value : (dpt : Dpt) (octets other text : List ℕ) → dpt ≢ Hundredths → HasValue dpt octets text
    → HasValue dpt other text → octets ≡ other
one_value Switch octets other text float p q = one_switch octets other text p q
one_value Scaling octets other text float p q = one_number w8 scaling_text octets other text scaling_injective p q
one_value U8 octets other text float p q =
    one_number w8 decimal octets other text (λ a b m n. decimal_injective a b (omega arith) (omega arith)) p q
one_value U16 octets other text float p q =
    one_number w16 decimal octets other text (λ a b m n. decimal_injective a b (omega arith) (omega arith)) p q
one_value U32 octets other text float p q =
    one_number w32 decimal octets other text (λ a b m n. decimal_injective a b (omega arith) (omega arith)) p q
one_value I8 octets other text float p q =
    one_number w8 (signed_text (2 ^ 7)) octets other text (signed_injective (2 ^ 7) (omega arith)) p q
one_value I16 octets other text float p q =
    one_number w16 (signed_text (2 ^ 15)) octets other text (signed_injective (2 ^ 15) (omega arith)) p q
one_value I32 octets other text float p q =
    one_number w32 (signed_text (2 ^ 31)) octets other text (signed_injective (2 ^ 31) (omega arith)) p q
one_value Hundredths octets other text float p q = elim (float refl) [ ]
one_value Time octets other text float p q = one_time octets other text p q
one_value Date octets other text float p q = one_day octets other text p q
one_value Text14 octets other text float p q = one_row octets other text p q
