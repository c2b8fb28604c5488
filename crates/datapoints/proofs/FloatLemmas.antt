-- Numbers with an exponent, from their texts.
use Rattle.std.proofs.Common.{◌≡◌, ◌≢◌, ℕ, ◌-◌, ◌*◌, ◌%◌, ◌^◌, ◌<◌, ◌≤◌, Bool, true, false, cond, List, ◌++◌, Option, Some, None, sym, ap, ◌∙◌, arith}
use Rattle.std.specs.Prelude.{MatchOption}
use Rattle.std.specs.Fmt.{sign_text}
use Rattle.std.proofs.Math.Pow.{pow_mono}
use Rattle.std.proofs.lemmas.Nat.{mul-le}
use Rattle.datapoints.specs.Values.{hundredths, is_negative, exponent_of, magnitude_of, float_text}
use Rattle.datapoints.specs.Parsing.{IsOnly, IsOnlySign, IsForm, IsLeastOf}
use Rattle.datapoints.proofs.TextLemmas.{hundredths_plain}

steps_bound : (b : Bool) (n : ℕ) → cond b (2048 - n % 2048) (n % 2048) ≤ 2048
steps_bound true n = omega arith
steps_bound false n = omega arith

pub magnitude_bound : (n : ℕ) → magnitude_of n < 10 ^ 8
magnitude_bound n =
    let power : 2 ^ exponent_of n ≤ 2 ^ 15 = pow_mono {i = exponent_of n} {j = 15} (omega arith) in
    let product : magnitude_of n ≤ 2048 * 2 ^ 15 =
    mul-le (cond (is_negative n) (2048 - n % 2048) (n % 2048)) (2 ^ exponent_of n) 2048 (2 ^ 15)
    (steps_bound (is_negative n) n) power
    in
    omega arith

-- no number with an exponent has the text, where no hundredths stand after its sign
pub no_float : (text digits : List ℕ) (negative : Bool) → IsOnlySign text negative digits
    → ((n : ℕ) → n < 10 ^ 8 → digits ≢ hundredths n) → (n : ℕ) → text ≢ float_text n
no_float text digits negative only none n = λ is.
    let bound = magnitude_bound n in
    let parts = only (is_negative n) (hundredths (magnitude_of n)) (hundredths_plain (magnitude_of n)
    (omega arith)) is in
    none (magnitude_of n) bound (sym parts.1)

form_of : (text digits : List ℕ) (negative : Bool) (magnitude n : ℕ) → IsOnlySign text negative digits
    → IsOnly (10 ^ 8) hundredths digits magnitude → n < 2 ^ 16 → n ≢ 0x7fff → text ≡ float_text n
    → IsForm n negative magnitude
form_of text digits negative magnitude n only_sign only small valid is =
    let bound = magnitude_bound n in
    let parts = only_sign (is_negative n) (hundredths (magnitude_of n))
    (hundredths_plain (magnitude_of n) (omega arith)) is in
    record {
      bound = small;
      valid = valid;
      sign = parts.0;
      size = only (magnitude_of n) bound (sym parts.1);
    }

-- the answer to a sign and hundredths is the answer to the text
pub float_named : (text digits : List ℕ) (negative : Bool) (magnitude : ℕ) (found : Option ℕ)
    → IsOnlySign text negative digits → text ≡ sign_text negative ++ digits → digits ≡ hundredths magnitude
    → IsOnly (10 ^ 8) hundredths digits magnitude → IsLeastOf negative magnitude found
    → MatchOption found ((n : ℕ) → n < 2 ^ 16 → n ≢ 0x7fff → text ≢ float_text n)
    (λ n. (n < 2 ^ 16) × (n ≢ 0x7fff) × (text ≡ float_text n))
    × MatchOption found (Unit {0}) (λ n. (other : ℕ) → other < 2 ^ 16 → other ≢ 0x7fff
    → text ≡ float_text other → exponent_of n ≤ exponent_of other)
float_named text digits negative magnitude None only_sign whole digits_are only least =
    (λ n small valid is. least n (form_of text digits negative magnitude n only_sign only small valid is), tt)
float_named text digits negative magnitude (Some n) only_sign whole digits_are only least =
    let form = least.0 in
    let spelled : text ≡ float_text n =
    whole ∙ ap (λ b. sign_text b ++ digits) (sym form.sign)
    ∙ ap (λ l. sign_text (is_negative n) ++ l) (digits_are ∙ ap hundredths (sym form.size))
    in (
      (form.bound, form.valid, spelled),
      λ other small valid is.
          least.1 other (form_of text digits negative magnitude other only_sign only small valid is),
    )
