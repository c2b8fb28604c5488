-- The octets that a text was encoded as are those that the search finds.
use Rattle.std.proofs.Common.{◌≡◌, ℕ, zero, suc, ◌+◌, ◌-◌, ◌*◌, ◌/◌, ◌%◌, ◌<◌, ◌≤◌, Bool, true, false, cond, List, [], ◌∷◌, ◌++◌, length, length-append, get_or, replicate, Option, Some, None, refl, sym, ap, subst, ◌∙◌, arith}
use Rattle.std.specs.Prelude.{find, pos, ℤ}
use Rattle.std.specs.Option.{option_map}
use Rattle.std.specs.Int.{to_be_bytes, w8, w16, w32}
use Rattle.std.specs.Cmp.Lexicographic.{same_text}
use Rattle.std.specs.List.{list_all}
use Rattle.std.proofs.lemmas.Bool.{and_parts, leb-true, leb-false}
use Rattle.std.proofs.lemmas.Bool.Decides.{nat_tests}
use Rattle.std.proofs.lemmas.List.{length-replicate}
use Rattle.jiff.specs.Words.{days_in_month}
use Rattle.datapoints.specs.declared.dpt.Dpt.{Dpt}
use Rattle.datapoints.specs.declared.dpt.Dpt.TheVariants.{Switch, Scaling, U8, U16, U32, I8, I16, I32, Hundredths, Time, Date, Text14}
use Rattle.datapoints.specs.Values.{HasValue, IsTextOfNone, IsLeastForm, is_printable, is_negative, exponent_of, exponent_in, century_of}
use Rattle.datapoints.specs.Texts.{text_of, value_size, is_text, octets_with, all_octets}
use Rattle.datapoints.specs.Apdus.{IsEncoded, apdu_with, apdu_for}
use Rattle.datapoints.proofs.OneValue.{float_same, exponent_there, one_form, one_value}
use Rattle.datapoints.proofs.SaidTexts.{AreOctets, same_list, says_text, no_text, civil_date, in_range}
use Rattle.datapoints.proofs.Searching.{IsFound, more_octets, found_in_all, there_in_all, least_in_all}

abbrev says : Dpt → List ℕ → List ℕ → Bool
says dpt text octets = is_text text (text_of dpt octets)

is_text-true : (text : List ℕ) (found : Option (List ℕ)) → is_text text found ≡ true → found ≡ Some text
is_text-true text None is = absurd cc
is_text-true text (Some found) is = ap Some (same_text found text (sym is))

is_text-same : (text : List ℕ) (found : Option (List ℕ)) → found ≡ Some text → is_text text found ≡ true
is_text-same text found is = ap (is_text text) is ∙ same_list text text refl

none_small : AreOctets []
none_small i = omega arith

bit_small : (is_on : Bool) → AreOctets (cond is_on 1 0 ∷ [])
bit_small true = more_octets 1 [] (omega arith) none_small
bit_small false = more_octets 0 [] (omega arith) none_small

bytes_one : (n : ℕ) → AreOctets (to_be_bytes w8 n)
bytes_one n = more_octets (n % 256) [] (omega arith) none_small

bytes_two : (n : ℕ) → AreOctets (to_be_bytes w16 n)
bytes_two n =
    more_octets (n / 256 % 256) ((n % 256) ∷ []) (omega arith) (more_octets (n % 256) [] (omega arith) none_small)

bytes_four : (n : ℕ) → AreOctets (to_be_bytes w32 n)
bytes_four n =
    more_octets (n / 16777216 % 256) ((n / 65536 % 256) ∷ (n / 256 % 256) ∷ (n % 256) ∷ []) (omega arith)
    (more_octets (n / 65536 % 256) ((n / 256 % 256) ∷ (n % 256) ∷ []) (omega arith) (bytes_two n))

three_small : (a b c : ℕ) → a < 256 → b < 256 → c < 256 → AreOctets (a ∷ b ∷ c ∷ [])
three_small a b c small_a small_b small_c =
    more_octets a (b ∷ c ∷ []) small_a (more_octets b (c ∷ []) small_b (more_octets c [] small_c none_small))

month_short : (year : ℤ) (month : ℕ) → days_in_month year month ≤ 31
month_short year month = grind (arith, nat_tests)

zeros_small : (k : ℕ) → AreOctets (replicate k 0)
zeros_small zero = none_small
zeros_small (suc k) = more_octets 0 (replicate k 0) (omega arith) (zeros_small k)

characters_small : (characters : List ℕ) (k : ℕ) → list_all is_printable characters ≡ true
    → AreOctets (characters ++ replicate k 0)
characters_small [] k printable = zeros_small k
characters_small (x ∷ characters) k printable =
    let parts = and_parts (is_printable x) (list_all is_printable characters) printable in
    let small : x < 256 = grind (arith, nat_tests, parts.0) in
    more_octets x (characters ++ replicate k 0) small (characters_small characters k parts.1)

-- a value has as many octets as its type says
value_there : (dpt : Dpt) (octets text : List ℕ) → HasValue dpt octets text
    → (length octets ≡ value_size dpt) × AreOctets octets
value_there Switch octets text has = rw has.octets_are (refl, bit_small has.is_on)
value_there Scaling octets text has = rw has.octets_are (refl, bytes_one has.number)
value_there U8 octets text has = rw has.octets_are (refl, bytes_one has.number)
value_there U16 octets text has = rw has.octets_are (refl, bytes_two has.number)
value_there U32 octets text has = rw has.octets_are (refl, bytes_four has.number)
value_there I8 octets text has = rw has.octets_are (refl, bytes_one has.number)
value_there I16 octets text has = rw has.octets_are (refl, bytes_two has.number)
value_there I32 octets text has = rw has.octets_are (refl, bytes_four has.number)
value_there Hundredths octets text has = rw has.octets_are (refl, bytes_two has.number)
value_there Time octets text has = rw has.octets_are (
  refl,
  three_small (32 * has.day + has.hour) has.minute has.second (omega (arith, has.day_bound, has.hour_bound))
      (omega (arith, has.minute_bound)) (omega (arith, has.second_bound)),
)
value_there Date octets text has =
    let civil = (civil_date (century_of has.year * 100 + has.year) has.month has.day
    (in_range has.year has.year_bound)).0 has.date in
    let month : has.month ≤ 12 = grind (arith, nat_tests, civil) in
    let day : has.day ≤ days_in_month (pos (century_of has.year * 100 + has.year)) has.month =
    grind (arith, nat_tests, civil) in
    let few = month_short (pos (century_of has.year * 100 + has.year)) has.month in
    rw has.octets_are (
      refl,
      three_small has.day has.month has.year (omega (arith, day, few)) (omega (arith, month))
          (omega (arith, has.year_bound)),
    )
value_there Text14 octets text has = rw has.octets_are (
  length-append has.characters (replicate (14 - length has.characters) 0)
      ∙ ap (λ n. length has.characters + n) (length-replicate (14 - length has.characters) 0)
      ∙ omega (arith, has.few),
  characters_small has.characters (14 - length has.characters) has.printable,
)

value_found : (dpt : Dpt) (octets text : List ℕ) → HasValue dpt octets text
    → IsFound (value_size dpt) (says dpt text) octets
value_found dpt octets text has =
    let there = value_there dpt octets text has in
    record {
      size = there.0;
      small = there.1;
      passes = is_text-same text (text_of dpt octets) ((says_text dpt octets there.0 there.1 text).0 has);
    }

found_value : (dpt : Dpt) (octets text : List ℕ) → IsFound (value_size dpt) (says dpt text) octets
    → HasValue dpt octets text
found_value dpt octets text found =
    (says_text dpt octets found.size found.small text).1 (is_text-true text (text_of dpt octets) found.passes)

-- the exponent rises with the first octet
exponents_rise : (a b : ℕ) → a < 65536 → b < 65536 → is_negative a ≡ is_negative b → a / 256 % 256 ≤ b / 256 % 256
    → exponent_of a ≤ exponent_of b
exponents_rise a b small_a small_b signs heads = by (is_negative b) signs refl where
  by : (negative : Bool) → is_negative a ≡ negative → is_negative b ≡ negative → exponent_of a ≤ exponent_of b
  by true a_is b_is = omega (arith, leb-true 32768 a a_is, leb-true 32768 b b_is)
  by false a_is b_is = omega (arith, leb-false 32768 a a_is, leb-false 32768 b b_is)

-- of the forms of one number the first that is found has the least exponent
first_form : (octets found text : List ℕ) → IsLeastForm octets text
    → find (says Hundredths text) (all_octets 2) ≡ Some found → found ≡ octets
first_form octets found text least is =
    let has = found_value Hundredths found text (found_in_all 2 (says Hundredths text) found is) in
    let q = least.0 in
    let there = subst (IsFound 2 (says Hundredths text)) q.octets_are (value_found Hundredths octets text q) in
    let first = least_in_all 1 (says Hundredths text) found (q.number / 256 % 256) ((q.number % 256) ∷ []) is there in
    let head : get_or found 0 0 ≡ has.number / 256 % 256 = ap (λ list. get_or list 0 0) has.octets_are in
    let signs = (float_same has.number q.number (sym has.spelled ∙ q.spelled)).0 in
    let rise = exponents_rise has.number q.number has.bound q.bound signs (omega (arith, first, head)) in
    let here : exponent_in found ≡ exponent_of has.number =
    ap exponent_in has.octets_are ∙ exponent_there has.number has.bound in
    let other : exponent_in octets ≡ exponent_of q.number =
    ap exponent_in q.octets_are ∙ exponent_there q.number q.bound in
    one_form found octets text has q (omega (arith, rise, here, other, least.1 found has))

same_value : (dpt : Dpt) (octets found text : List ℕ) → IsEncoded dpt text octets
    → find (says dpt text) (all_octets (value_size dpt)) ≡ Some found → HasValue dpt found text → found ≡ octets
same_value Hundredths octets found text encoded is has = first_form octets found text (encoded.least refl) is
same_value dpt octets found text encoded is has = one_value dpt found octets text (λ same. cc) has encoded.value

octets_found : (dpt : Dpt) (text octets : List ℕ) → IsEncoded dpt text octets
    → octets_with dpt text ≡ Some octets
unfolding octets_with
octets_found dpt text octets encoded =
    let there = there_in_all (value_size dpt) (says dpt text) octets (value_found dpt octets text encoded.value) in
    let has = found_value dpt there.0 text (found_in_all (value_size dpt) (says dpt text) there.0 there.1) in
    there.1 ∙ ap Some (same_value dpt octets there.0 text encoded there.1 has)

octets_none : (dpt : Dpt) (text : List ℕ) → IsTextOfNone dpt text → octets_with dpt text ≡ None
unfolding octets_with
octets_none dpt text none = no_text (find (says dpt text) (all_octets (value_size dpt)))
    (λ found is. none found (found_value dpt found text (found_in_all (value_size dpt) (says dpt text) found is)))

pub apdu_found : (dpt : Dpt) (text : List ℕ) (bits : ℕ) (octets : List ℕ) → IsEncoded dpt text octets
    → apdu_for dpt text bits ≡ Some (apdu_with dpt bits octets)
unfolding apdu_for
apdu_found dpt text bits octets encoded = ap (option_map (apdu_with dpt bits)) (octets_found dpt text octets encoded)

pub apdu_none : (dpt : Dpt) (text : List ℕ) (bits : ℕ) → IsTextOfNone dpt text → apdu_for dpt text bits ≡ None
unfolding apdu_for
apdu_none dpt text bits none = ap (option_map (apdu_with dpt bits)) (octets_none dpt text none)
