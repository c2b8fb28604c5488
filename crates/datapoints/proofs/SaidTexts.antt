-- The text that the function gives is the one that the relation says.
use Rattle.std.proofs.Common.{◌≡◌, ℕ, ◌+◌, ◌-◌, ◌*◌, ◌/◌, ◌%◌, ◌^◌, ◌<◌, ◌≤◌, ◌==◌, Bool, true, false, not, ◌&&◌, cond, List, [], ◌∷◌, ◌++◌, length, length-append, length-drop, zero, suc, drop, get_or, replicate, Option, Some, None, refl, sym, ap, ◌∙◌, arith, inl, inr}
use Rattle.std.specs.Prelude.{codes, nat_le, nat_eq, pos, ◌↔◌}
use Rattle.std.specs.Int.{Width, byte_len, to_be_bytes, from_be_bytes, w8, w16, w32}
use Rattle.std.specs.Fmt.{decimal}
use Rattle.std.specs.List.{list_all}
use Rattle.std.specs.Cmp.Lexicographic.{pointwise, same_text, other_text}
use Rattle.std.proofs.lemmas.Bool.{eqb-true, eqb-false, eq-eqb, ne_eqb, not-true, cases_Bool, and_parts, and_from, leb-true, le-leb}
use Rattle.std.proofs.lemmas.Bool.Decides.{nat_tests}
use Rattle.std.proofs.lemmas.List.{get_or-drop}
use Rattle.std.proofs.lemmas.List.Sums.{take_while-cons}
use Rattle.jiff.specs.Words.{IsDate, days_in_month}
use Rattle.datapoints.specs.declared.dpt.Dpt.{Dpt}
use Rattle.datapoints.specs.declared.dpt.Dpt.TheVariants.{Switch, Scaling, U8, U16, U32, I8, I16, I32, Hundredths, Time, Date, Text14}
use Rattle.datapoints.specs.Values.{HasValue, HasNoText, IsNumber, IsFloat, IsSwitch, IsTime, IsDay, IsCharacters, scaling_text, signed_text, float_text, clock_text, century_of, day_text, is_printable, filled, quoted}
use Rattle.datapoints.specs.Texts.{text_if, switch_of, float_of, clock_of, is_civil_date, date_of, before_zero, characters_of, text_of, SaysText, value_size}
use Rattle.datapoints.specs.Apdus.{apdu_size, value_in}
use Rattle.datapoints.specs.Shown.{text_in}
use Rattle.datapoints.proofs.OneText.{one_octet, two_octets, four_octets}

-- each is an octet
abbrev pub AreOctets : List ℕ → Type 0
AreOctets octets = (i : ℕ) → get_or octets i 0 < 256

-- ---- a text under a test

text_if-some : (valid : Bool) (text other : List ℕ) → text_if valid text ≡ Some other → (valid ≡ true) × (text ≡ other)
text_if-some true text other is = (refl, cc)
text_if-some false text other is = absurd (let h = is in cc)

text_if-true : (valid : Bool) (text : List ℕ) → valid ≡ true → text_if valid text ≡ Some text
text_if-true valid text is = ap (λ v. text_if v text) is

-- ---- numbers

says_number : (w : Width) (spelling : ℕ → List ℕ) (octets text : List ℕ) (n : ℕ)
    → ((a b : ℕ) → a < 256 ^ byte_len w → b < 256 ^ byte_len w → to_be_bytes w a ≡ to_be_bytes w b → a ≡ b)
    → n < 256 ^ byte_len w → to_be_bytes w n ≡ octets
    → IsNumber w spelling octets text ↔ (Some (spelling n) ≡ Some text)
says_number w spelling octets text n injective small are = (
  λ is. ap Some (ap spelling (injective n is.number small is.bound (are ∙ is.octets_are)) ∙ sym is.spelled),
  λ same. record { number = n; bound = small; octets_are = sym are; spelled = cc },
)

one_there : (a : ℕ) → a < 256 → (from_be_bytes w8 (a ∷ []) < 256)
    × (to_be_bytes w8 (from_be_bytes w8 (a ∷ [])) ≡ a ∷ [])
one_there a small =
    let low : a % 256 ≡ a = omega arith in
    (small, ap (λ n. n ∷ []) low)

two_there : (a b : ℕ) → a < 256 → b < 256 → (from_be_bytes w16 (a ∷ b ∷ []) < 65536)
    × (to_be_bytes w16 (from_be_bytes w16 (a ∷ b ∷ [])) ≡ a ∷ b ∷ [])
two_there a b small_a small_b =
    let high : (a * 256 + b) / 256 % 256 ≡ a = omega arith in
    let low : (a * 256 + b) % 256 ≡ b = omega arith in
    (omega arith, cc)

four_there : (a b c d : ℕ) → a < 256 → b < 256 → c < 256 → d < 256
    → (from_be_bytes w32 (a ∷ b ∷ c ∷ d ∷ []) < 4294967296)
    × (to_be_bytes w32 (from_be_bytes w32 (a ∷ b ∷ c ∷ d ∷ [])) ≡ a ∷ b ∷ c ∷ d ∷ [])
four_there a b c d small_a small_b small_c small_d =
    let n : ℕ = a * 16777216 + b * 65536 + c * 256 + d in
    let first : n / 16777216 % 256 ≡ a = omega arith in
    let second : n / 65536 % 256 ≡ b = omega arith in
    let third : n / 256 % 256 ≡ c = omega arith in
    let last : n % 256 ≡ d = omega arith in
    (omega arith, cc)

number_of_one : (spelling : ℕ → List ℕ) (a : ℕ) (text : List ℕ) → a < 256
    → IsNumber w8 spelling (a ∷ []) text ↔ (Some (spelling (from_be_bytes w8 (a ∷ []))) ≡ Some text)
number_of_one spelling a text small =
    let there = one_there a small in
    says_number w8 spelling (a ∷ []) text (from_be_bytes w8 (a ∷ [])) one_octet there.0 there.1

number_of_two : (spelling : ℕ → List ℕ) (a b : ℕ) (text : List ℕ) → a < 256 → b < 256
    → IsNumber w16 spelling (a ∷ b ∷ []) text ↔ (Some (spelling (from_be_bytes w16 (a ∷ b ∷ []))) ≡ Some text)
number_of_two spelling a b text small_a small_b =
    let there = two_there a b small_a small_b in
    says_number w16 spelling (a ∷ b ∷ []) text (from_be_bytes w16 (a ∷ b ∷ [])) two_octets there.0 there.1

number_of_four : (spelling : ℕ → List ℕ) (a b c d : ℕ) (text : List ℕ) → a < 256 → b < 256 → c < 256 → d < 256
    → IsNumber w32 spelling (a ∷ b ∷ c ∷ d ∷ []) text
    ↔ (Some (spelling (from_be_bytes w32 (a ∷ b ∷ c ∷ d ∷ []))) ≡ Some text)
number_of_four spelling a b c d text small_a small_b small_c small_d =
    let there = four_there a b c d small_a small_b small_c small_d in
    says_number w32 spelling (a ∷ b ∷ c ∷ d ∷ []) text (from_be_bytes w32 (a ∷ b ∷ c ∷ d ∷ [])) four_octets there.0
    there.1

says_float : (octets text : List ℕ) (n : ℕ) → n < 65536 → to_be_bytes w16 n ≡ octets
    → IsFloat octets text ↔ (float_of n ≡ Some text)
says_float octets text n small are = (
  λ is.
      let same : n ≡ is.number = two_octets n is.number small is.bound (are ∙ is.octets_are) in
      let valid : not (n == 0x7fff) ≡ true = ap not (ne_eqb n 0x7fff (λ h. is.valid (sym same ∙ h))) in
      text_if-true (not (n == 0x7fff)) (float_text n) valid ∙ ap (λ m. Some (float_text m)) same
      ∙ ap Some (sym is.spelled),
  λ said.
      let parts = text_if-some (not (n == 0x7fff)) (float_text n) text said in
      record {
        number = n;
        bound = small;
        valid = eqb-false n 0x7fff (not-true (n == 0x7fff) parts.0);
        octets_are = sym are;
        spelled = sym parts.1;
      },
)

-- ---- bits

says_switch : (bits : ℕ) (text : List ℕ) → IsSwitch (bits ∷ []) text ↔ (switch_of bits ≡ Some text)
says_switch bits text = (to, from) where
  to_with : (is_on : Bool) → bits ∷ [] ≡ cond is_on 1 0 ∷ [] → text ≡ cond is_on (codes "on") (codes "off")
      → switch_of bits ≡ Some text
  to_with true are spelled = let one : bits ≡ 1 = cc in ap switch_of one ∙ ap Some (sym spelled)
  to_with false are spelled = let none : bits ≡ 0 = cc in ap switch_of none ∙ ap Some (sym spelled)

  to : IsSwitch (bits ∷ []) text → switch_of bits ≡ Some text
  to is = to_with is.is_on is.octets_are is.spelled

  second : switch_of bits ≡ Some text → (bits == 0) ≡ false → IsSwitch (bits ∷ []) text
  second said other =
      let rest : text_if (bits == 1) (codes "on") ≡ Some text = rw other at said in
      let parts = text_if-some (bits == 1) (codes "on") text rest in
      record {
        is_on = true;
        octets_are = ap (λ n. n ∷ []) (eqb-true bits 1 parts.0);
        spelled = sym parts.1;
      }

  first : switch_of bits ≡ Some text → (bits == 0) ≡ true → IsSwitch (bits ∷ []) text
  first said none =
      let off : Some (codes "off") ≡ Some text = rw none at said in
      record { is_on = false; octets_are = ap (λ n. n ∷ []) (eqb-true bits 0 none); spelled = cc }

  from : switch_of bits ≡ Some text → IsSwitch (bits ∷ []) text
  from said = elim (cases_Bool (bits == 0)) [
    | inl none ↦ first said none
    | inr other ↦ second said other
  ]

-- ---- times and dates

says_time : (first minute second : ℕ) (text : List ℕ) → first < 256
    → IsTime (first ∷ minute ∷ second ∷ []) text ↔ (clock_of first minute second ≡ Some text)
says_time first minute second text small = (
  λ is.
      let upper : first ≡ 32 * is.day + is.hour = cc is.octets_are in
      let minutes : minute ≡ is.minute = cc is.octets_are in
      let seconds : second ≡ is.second = cc is.octets_are in
      let day : first / 32 ≡ is.day = omega (arith, upper, is.hour_bound) in
      let hour : first % 32 ≡ is.hour = omega (arith, upper, is.hour_bound) in
      let valid : (nat_le (first % 32) 23 && nat_le minute 59 && nat_le second 59) ≡ true =
      grind (arith, nat_tests, hour, minutes, seconds, is.hour_bound, is.minute_bound, is.second_bound) in
      text_if-true (nat_le (first % 32) 23 && nat_le minute 59 && nat_le second 59)
      (clock_text (first / 32) (first % 32) minute second) valid
      ∙ ap Some (cc (day, hour, minutes, seconds, is.spelled)),
  λ said.
      let parts = text_if-some (nat_le (first % 32) 23 && nat_le minute 59 && nat_le second 59)
      (clock_text (first / 32) (first % 32) minute second) text said in
      let tests : (first % 32 ≤ 23) × (minute ≤ 59) × (second ≤ 59) = grind (arith, nat_tests, parts.0) in
      let whole : first ≡ 32 * (first / 32) + first % 32 = omega arith in
      record {
        day = first / 32;
        hour = first % 32;
        minute = minute;
        second = second;
        day_bound = omega arith;
        hour_bound = tests.0;
        minute_bound = tests.1;
        second_bound = tests.2;
        octets_are = ap (λ (n : ℕ). n ∷ minute ∷ second ∷ []) whole;
        spelled = sym parts.1;
      },
)

-- a date that the calendar has
pub civil_date : (year month day : ℕ) → year ≤ 9999
    → IsDate (pos year) (pos month) (pos day) ↔ (is_civil_date year month day ≡ true)
civil_date year month day few = (
  λ is. grind (arith, nat_tests, is),
  λ valid.
      let tests : (1 ≤ month) × (month ≤ 12) × (1 ≤ day) × (day ≤ days_in_month (pos year) month) =
      grind (arith, nat_tests, valid) in
      (grind (arith, few), grind (arith, tests), grind (arith, tests)),
)

pub in_range : (year : ℕ) → year ≤ 99 → century_of year * 100 + year ≤ 9999
in_range year few = either (nat_le 90 year) where
  either : (late : Bool) → cond late 19 20 * 100 + year ≤ 9999
  either true = omega arith
  either false = omega arith

says_date : (day month year : ℕ) (text : List ℕ)
    → IsDay (day ∷ month ∷ year ∷ []) text ↔ (date_of day month year ≡ Some text)
says_date day month year text = (
  λ is.
      let days : day ≡ is.day = cc is.octets_are in
      let months : month ≡ is.month = cc is.octets_are in
      let years : year ≡ is.year = cc is.octets_are in
      let civil = civil_date (century_of is.year * 100 + is.year) is.month is.day (in_range is.year is.year_bound) in
      (λ i. date_of (days i) (months i) (years i))
      ∙ text_if-true (nat_le is.year 99 && is_civil_date (century_of is.year * 100 + is.year) is.month is.day)
      (day_text is.year is.month is.day)
      (and_from _ _ (le-leb is.year 99 is.year_bound) (civil.0 is.date)) ∙ ap Some (sym is.spelled),
  λ said.
      let valid = is_civil_date (century_of year * 100 + year) month day in
      let parts = text_if-some (nat_le year 99 && valid) (day_text year month day) text said in
      let tests = and_parts (nat_le year 99) valid parts.0 in
      let few = leb-true year 99 tests.0 in
      record {
        year = year;
        month = month;
        day = day;
        year_bound = few;
        date = (civil_date (century_of year * 100 + year) month day (in_range year few)).1 tests.1;
        octets_are = refl;
        spelled = sym parts.1;
      },
)

-- ---- characters

pub same_list : (xs ys : List ℕ) → xs ≡ ys → pointwise nat_eq xs ys ≡ true
same_list xs ys is = elim (cases_Bool (pointwise nat_eq xs ys)) [
  | inl same ↦ same
  | inr other ↦ absurd (other_text xs ys (sym other) is)
]

before_zeros : (characters : List ℕ) (k : ℕ) → list_all is_printable characters ≡ true
    → before_zero (characters ++ replicate k 0) ≡ characters
before_zeros [] zero printable = refl
before_zeros [] (suc k) printable = refl
before_zeros (x ∷ characters) k printable =
    let parts = and_parts (is_printable x) (list_all is_printable characters) printable in
    let not_zero : not (x == 0) ≡ true = grind (arith, nat_tests, parts.0) in
    take_while-cons (λ octet. not (octet == 0)) x (characters ++ replicate k 0)
    ∙ ap (λ b. cond b (x ∷ before_zero (characters ++ replicate k 0)) []) not_zero
    ∙ ap (λ l. x ∷ l) (before_zeros characters k parts.1)

says_characters : (octets text : List ℕ) → length octets ≡ 14
    → IsCharacters octets text ↔ (characters_of octets ≡ Some text)
says_characters octets text size = (
  λ is.
      let front : before_zero octets ≡ is.characters =
      ap before_zero is.octets_are ∙ before_zeros is.characters (14 - length is.characters) is.printable in
      let same : octets ≡ filled (before_zero octets) = is.octets_are ∙ ap filled (sym front) in
      text_if-true (list_all is_printable (before_zero octets) && pointwise nat_eq octets (filled (before_zero octets)))
      (quoted (before_zero octets))
      (and_from _ _ (ap (list_all is_printable) front ∙ is.printable) (same_list octets (filled (before_zero octets))
      same))
      ∙ ap (λ characters. Some (quoted characters)) front ∙ ap Some (sym is.spelled),
  λ said.
      let front = before_zero octets in
      let parts = text_if-some (list_all is_printable front && pointwise nat_eq octets (filled front)) (quoted front)
      text said in
      let tests = and_parts (list_all is_printable front) (pointwise nat_eq octets (filled front)) parts.0 in
      let whole : octets ≡ filled front = same_text octets (filled front) (sym tests.1) in
      let sizes = ap length whole ∙ length-append front (replicate (14 - length front) 0) in
      record {
        characters = front;
        few = omega (arith, sizes, size);
        printable = tests.0;
        octets_are = whole;
        spelled = sym parts.1;
      },
)

-- ---- all types

pub says_text : (dpt : Dpt) (octets : List ℕ) → length octets ≡ value_size dpt → AreOctets octets → SaysText dpt octets
unfolding text_of
says_text Switch (a ∷ []) size small text = says_switch a text
says_text Scaling (a ∷ []) size small text = number_of_one scaling_text a text (small 0)
says_text U8 (a ∷ []) size small text = number_of_one decimal a text (small 0)
says_text U16 (a ∷ b ∷ []) size small text = number_of_two decimal a b text (small 0) (small 1)
says_text U32 (a ∷ b ∷ c ∷ d ∷ []) size small text =
    number_of_four decimal a b c d text (small 0) (small 1) (small 2) (small 3)
says_text I8 (a ∷ []) size small text = number_of_one (signed_text (2 ^ 7)) a text (small 0)
says_text I16 (a ∷ b ∷ []) size small text = number_of_two (signed_text (2 ^ 15)) a b text (small 0) (small 1)
says_text I32 (a ∷ b ∷ c ∷ d ∷ []) size small text =
    number_of_four (signed_text (2 ^ 31)) a b c d text (small 0) (small 1) (small 2) (small 3)
says_text Hundredths (a ∷ b ∷ []) size small text =
    let there = two_there a b (small 0) (small 1) in
    says_float (a ∷ b ∷ []) text (from_be_bytes w16 (a ∷ b ∷ [])) there.0 there.1
says_text Time (a ∷ b ∷ c ∷ []) size small text = says_time a b c text (small 0)
says_text Date (a ∷ b ∷ c ∷ []) size small text = says_date a b c text
says_text Text14 octets size small text = says_characters octets text size
says_text _ octets size small text = absurd (omega arith)

-- ---- in an APDU

pub no_text : (found : Option (List ℕ)) → ((text : List ℕ) → found ≡ Some text → ⊥) → found ≡ None
no_text None never = refl
no_text (Some text) never = absurd (never text refl)

one_octet_there : (octet : ℕ) → octet < 256 → AreOctets (octet ∷ [])
one_octet_there octet small zero = small
one_octet_there octet small (suc i) = omega arith

later_octets : (apdu : List ℕ) → AreOctets apdu → AreOctets (drop 2 apdu)
later_octets apdu small i = rw (get_or-drop 2 apdu i 0) (small (2 + i))

value_behind : (dpt : Dpt) (apdu : List ℕ) → length apdu ≡ value_size dpt + 2 → AreOctets apdu
    → SaysText dpt (drop 2 apdu)
value_behind dpt apdu size small =
    says_text dpt (drop 2 apdu) (length-drop 2 apdu ∙ omega arith) (later_octets apdu small)

pub says_value : (dpt : Dpt) (apdu : List ℕ) → length apdu ≡ apdu_size dpt → AreOctets apdu
    → SaysText dpt (value_in dpt apdu)
says_value Switch apdu size small = says_text Switch (get_or apdu 1 0 % 64 ∷ []) refl (one_octet_there _ (omega arith))
says_value Scaling apdu size small = value_behind Scaling apdu size small
says_value U8 apdu size small = value_behind U8 apdu size small
says_value U16 apdu size small = value_behind U16 apdu size small
says_value U32 apdu size small = value_behind U32 apdu size small
says_value I8 apdu size small = value_behind I8 apdu size small
says_value I16 apdu size small = value_behind I16 apdu size small
says_value I32 apdu size small = value_behind I32 apdu size small
says_value Hundredths apdu size small = value_behind Hundredths apdu size small
says_value Time apdu size small = value_behind Time apdu size small
says_value Date apdu size small = value_behind Date apdu size small
says_value Text14 apdu size small = value_behind Text14 apdu size small

text_there : (dpt : Dpt) (apdu : List ℕ) → length apdu ≡ apdu_size dpt
    → text_in dpt apdu ≡ text_of dpt (value_in dpt apdu)
text_there dpt apdu size =
    ap (λ b. cond b (text_of dpt (value_in dpt apdu)) None) (eq-eqb (length apdu) (apdu_size dpt) size)

pub text_is : (dpt : Dpt) (apdu text : List ℕ) → length apdu ≡ apdu_size dpt → AreOctets apdu
    → HasValue dpt (value_in dpt apdu) text → text_in dpt apdu ≡ Some text
text_is dpt apdu text size small has = text_there dpt apdu size ∙ (says_value dpt apdu size small text).0 has

pub text_is_none : (dpt : Dpt) (apdu : List ℕ) → length apdu ≡ apdu_size dpt → AreOctets apdu
    → HasNoText dpt (value_in dpt apdu) → text_in dpt apdu ≡ None
text_is_none dpt apdu size small none =
    text_there dpt apdu size
    ∙ no_text (text_of dpt (value_in dpt apdu)) (λ text said. none text ((says_value dpt apdu size small text).1 said))
