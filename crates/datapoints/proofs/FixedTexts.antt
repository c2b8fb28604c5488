-- Texts whose digits stand at fixed places.
use Rattle.std.proofs.Common.{◌≡◌, ℕ, ◌+◌, ◌-◌, ◌*◌, ◌<◌, ◌≤◌, List, [], ◌∷◌, length, get_or, refl, ap, ◌∙◌, arith}
use Rattle.std.specs.Prelude.{pos}
use Rattle.jiff.specs.Words.{IsDate}
use Rattle.datapoints.specs.Values.{two_digits, century_of, IsTime, IsDay}

abbrev at : List ℕ → ℕ → ℕ
at xs i = get_or xs i 0

pub two_long : (xs : List ℕ) → 2 ≤ length xs → length xs < 3 → xs ≡ at xs 0 ∷ at xs 1 ∷ []
two_long (a ∷ b ∷ []) low high = refl
two_long _ low high = absurd (omega arith)

ten_long : (xs : List ℕ) → 10 ≤ length xs → length xs < 11
    → xs ≡ at xs 0 ∷ at xs 1 ∷ at xs 2 ∷ at xs 3 ∷ at xs 4 ∷ at xs 5 ∷ at xs 6 ∷ at xs 7 ∷ at xs 8 ∷ at xs 9 ∷ []
ten_long (a ∷ b ∷ c ∷ d ∷ e ∷ f ∷ g ∷ h ∷ i ∷ j ∷ []) low high = refl
ten_long _ low high = absurd (omega arith)

pub time_read : (xs text octets : List ℕ) (hour minute second : ℕ) → xs ≡ text → 10 ≤ length xs → length xs < 11
    → 48 ≤ at xs 0 → at xs 0 ≤ 55 → at xs 1 ≡ 32 → at xs 2 ∷ at xs 3 ∷ [] ≡ two_digits hour → at xs 4 ≡ 58
    → at xs 5 ∷ at xs 6 ∷ [] ≡ two_digits minute → at xs 7 ≡ 58 → at xs 8 ∷ at xs 9 ∷ [] ≡ two_digits second
    → hour ≤ 23 → minute ≤ 59 → second ≤ 59
    → octets ≡ ((at xs 0 - 48) * 32 + hour) ∷ minute ∷ second ∷ [] → IsTime octets text
time_read xs text octets hour minute second same low high first last space hours colon minutes colon' seconds h m s is =
    let all = ten_long xs low high in
    let day : at xs 0 ≡ 48 + (at xs 0 - 48) = omega arith in
    let upper : (at xs 0 - 48) * 32 + hour ≡ 32 * (at xs 0 - 48) + hour = omega arith in
    record {
      day = at xs 0 - 48;
      hour = hour;
      minute = minute;
      second = second;
      day_bound = omega arith;
      hour_bound = h;
      minute_bound = m;
      second_bound = s;
      octets_are = is ∙ ap (λ (n : ℕ). n ∷ minute ∷ second ∷ []) upper;
      spelled = cc;
    }

pub date_read : (xs text octets : List ℕ) (century year month day : ℕ) → xs ≡ text → 10 ≤ length xs → length xs < 11
    → at xs 0 ∷ at xs 1 ∷ [] ≡ two_digits century → at xs 2 ∷ at xs 3 ∷ [] ≡ two_digits year → at xs 4 ≡ 45
    → at xs 5 ∷ at xs 6 ∷ [] ≡ two_digits month → at xs 7 ≡ 45 → at xs 8 ∷ at xs 9 ∷ [] ≡ two_digits day
    → century ≡ century_of year → year < 100 → IsDate (pos (century_of year * 100 + year)) (pos month) (pos day)
    → octets ≡ day ∷ month ∷ year ∷ [] → IsDay octets text
date_read xs text octets century year month day same low high centuries years dash months dash' days in_century small
    date is =
    let all = ten_long xs low high in
    let front : at xs 0 ∷ at xs 1 ∷ [] ≡ two_digits (century_of year) = centuries ∙ ap two_digits in_century in
    record {
      year = year;
      month = month;
      day = day;
      year_bound = omega arith;
      date = date;
      octets_are = is;
      spelled = cc;
    }
