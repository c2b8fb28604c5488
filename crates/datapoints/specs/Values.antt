-- Statement: the values of group objects as octets and as texts: the datapoint types of the KNX specification
-- (chapter 3/7/2), cut to this profile. The texts are this program's own.
use Rattle.std.specs.Prelude.{◌≡◌, ◌≢◌, ℕ, ◌+◌, ◌-◌, ◌*◌, ◌/◌, ◌%◌, ◌^◌, ◌<◌, ◌≤◌, ◌&&◌, nat_le, nat_lt, if◌then◌else◌, Bool, true, List, [], ◌∷◌, ◌++◌, length, replicate, codes, slice_index, pos}
use Rattle.std.specs.Int.{Width, byte_len, to_be_bytes, w8, w16, w32}
use Rattle.std.specs.Fmt.{decimal, sign_text}
use Rattle.std.specs.List.{list_all}
use Rattle.jiff.specs.Words.{IsDate}
use Rattle.datapoints.specs.declared.dpt.Dpt.{Dpt}
use Rattle.datapoints.specs.declared.dpt.Dpt.TheVariants.{Switch, Scaling, U8, U16, U32, I8, I16, I32, Hundredths, Time, Date, Text14}

-- ---- the texts of numbers

-- a number below 100
abbrev pub two_digits : ℕ → List ℕ
two_digits n = (48 + n / 10) ∷ (48 + n % 10) ∷ []

-- so many hundredths, as `12.05`
abbrev pub hundredths : ℕ → List ℕ
hundredths n = decimal (n / 100) ++ 46 ∷ two_digits (n % 100)

-- a part of a whole of 255, in hundredths of a percent, rounded down
abbrev pub scaling_text : ℕ → List ℕ
scaling_text n = hundredths (n * 10000 / 255)

-- two's complement: from half of all numbers on, n stands for n - 2 half
abbrev pub signed_text : ℕ → ℕ → List ℕ
signed_text half n =
    sign_text (nat_le half n) ++ decimal (if nat_lt n half then n else 2 * half - n)

-- ---- numbers of two octets with an exponent: sign s (bit 15), exponent e (bits 14 to 11) and mantissa m (bits 10 to
-- 0) stand for (m - 2048 s) 2^e hundredths

abbrev pub is_negative : ℕ → Bool
is_negative n = nat_le 32768 n

abbrev pub exponent_of : ℕ → ℕ
exponent_of n = n / 2048 % 16

abbrev pub magnitude_of : ℕ → ℕ
magnitude_of n = (if is_negative n then 2048 - n % 2048 else n % 2048) * 2 ^ exponent_of n

abbrev pub float_text : ℕ → List ℕ
float_text n = sign_text (is_negative n) ++ hundredths (magnitude_of n)

-- ---- one record for each form

-- a number of this width, its highest octet first, and its text
pub record IsNumber (w : Width) (text_of : ℕ → List ℕ) (octets text : List ℕ) : Type 0 where
  pub number : ℕ
  pub bound : number < 256 ^ byte_len w
  pub octets_are : octets ≡ to_be_bytes w number
  pub spelled : text ≡ text_of number

-- `d hh:mm:ss`
abbrev pub clock_text : ℕ → ℕ → ℕ → ℕ → List ℕ
clock_text day hour minute second =
    (48 + day) ∷ 32 ∷ (two_digits hour ++ 58 ∷ (two_digits minute ++ 58 ∷ two_digits second))

-- the day in the upper three bits of the first octet, the hour in the lower five; minute; second
pub record IsTime (octets text : List ℕ) : Type 0 where
  pub day : ℕ
  pub hour : ℕ
  pub minute : ℕ
  pub second : ℕ
  pub day_bound : day ≤ 7
  pub hour_bound : hour ≤ 23
  pub minute_bound : minute ≤ 59
  pub second_bound : second ≤ 59
  pub octets_are : octets ≡ (32 * day + hour) ∷ minute ∷ second ∷ []
  pub spelled : text ≡ clock_text day hour minute second

-- of two digits of a year those from 90 on are of the twentieth century
abbrev pub century_of : ℕ → ℕ
century_of year = if nat_le 90 year then 19 else 20

-- `YYYY-MM-DD`
abbrev pub day_text : ℕ → ℕ → ℕ → List ℕ
day_text year month day =
    two_digits (century_of year) ++ (two_digits year ++ 45 ∷ (two_digits month ++ 45 ∷ two_digits day))

-- day, month, and the year in its century; a date of the Gregorian calendar
pub record IsDay (octets text : List ℕ) : Type 0 where
  pub year : ℕ
  pub month : ℕ
  pub day : ℕ
  pub year_bound : year ≤ 99
  pub date : IsDate (pos (century_of year * 100 + year)) (pos month) (pos day)
  pub octets_are : octets ≡ day ∷ month ∷ year ∷ []
  pub spelled : text ≡ day_text year month day

-- an octet of printable ASCII
abbrev pub is_printable : ℕ → Bool
is_printable octet = nat_le 32 octet && nat_le octet 126

-- characters, and zeros up to fourteen octets
abbrev pub filled : List ℕ → List ℕ
filled characters = characters ++ replicate (14 - length characters) 0

-- in double quotes
abbrev pub quoted : List ℕ → List ℕ
quoted characters = 34 ∷ (characters ++ 34 ∷ [])

-- up to fourteen characters in double quotes: the octets are the characters, and then zeros
pub record IsCharacters (octets text : List ℕ) : Type 0 where
  pub characters : List ℕ
  pub few : length characters ≤ 14
  pub printable : list_all is_printable characters ≡ true
  pub octets_are : octets ≡ filled characters
  pub spelled : text ≡ quoted characters

-- 0 is `off` and 1 is `on`
pub record IsSwitch (octets text : List ℕ) : Type 0 where
  pub is_on : Bool
  pub octets_are : octets ≡ (if is_on then 1 else 0) ∷ []
  pub spelled : text ≡ (if is_on then codes "on" else codes "off")

-- a number with an exponent, and not the one of its forms that stands for no value
pub record IsFloat (octets text : List ℕ) : Type 0 where
  pub number : ℕ
  pub bound : number < 2 ^ 16
  pub valid : number ≢ 0x7fff
  pub octets_are : octets ≡ to_be_bytes w16 number
  pub spelled : text ≡ float_text number

-- The octets are a value of this type, and this is its text. The octet of a type of bits is the value of the bits.
abbrev pub HasValue : Dpt → List ℕ → List ℕ → Type 0
HasValue Switch octets text = IsSwitch octets text
HasValue Scaling octets text = IsNumber w8 scaling_text octets text
HasValue U8 octets text = IsNumber w8 decimal octets text
HasValue U16 octets text = IsNumber w16 decimal octets text
HasValue U32 octets text = IsNumber w32 decimal octets text
HasValue I8 octets text = IsNumber w8 (signed_text (2 ^ 7)) octets text
HasValue I16 octets text = IsNumber w16 (signed_text (2 ^ 15)) octets text
HasValue I32 octets text = IsNumber w32 (signed_text (2 ^ 31)) octets text
HasValue Hundredths octets text = IsFloat octets text
HasValue Time octets text = IsTime octets text
HasValue Date octets text = IsDay octets text
HasValue Text14 octets text = IsCharacters octets text

-- a text is of at most one value, and a value has at most one text: what holds of each type
abbrev pub HasOneText : Dpt → List ℕ → Type 0
HasOneText dpt octets = (text other : List ℕ) → HasValue dpt octets text → HasValue dpt octets other → text ≡ other

abbrev pub HasNoText : Dpt → List ℕ → Type 0
HasNoText dpt octets = (text : List ℕ) → ¬ HasValue dpt octets text

abbrev pub IsTextOfNone : Dpt → List ℕ → Type 0
IsTextOfNone dpt text = (octets : List ℕ) → ¬ HasValue dpt octets text

-- the exponent of the two octets of a number with an exponent
abbrev pub exponent_in : List ℕ → ℕ
exponent_in octets = slice_index octets 0 / 8 % 16

-- of all octets of the value with this text these have the least exponent
abbrev pub IsLeastForm : List ℕ → List ℕ → Type 0
IsLeastForm octets text = HasValue Hundredths octets text
    × ((other : List ℕ) → HasValue Hundredths other text → exponent_in octets ≤ exponent_in other)
