-- Plumbing for the proofs of the readers: what the parts of a text are answered with.
use Rattle.std.specs.Prelude.{◌≡◌, ◌≢◌, ℕ, ◌<◌, ◌≤◌, ◌^◌, ◌/◌, ◌%◌, ◌++◌, ◌∷◌, slice_index, List, Bool, Option, MatchOption}
use Rattle.std.specs.Fmt.{decimal, sign_text}
use Rattle.datapoints.specs.Values.{two_digits, hundredths, is_negative, exponent_of, magnitude_of}

-- the number below this limit whose text this is, or there is none
abbrev pub NamesNumber : ℕ → (ℕ → List ℕ) → List ℕ → Option ℕ → Type 0
NamesNumber limit text_of text found =
    MatchOption found ((n : ℕ) → n < limit → text ≢ text_of n) (λ n. (n < limit) × (text ≡ text_of n))

-- no other number below the limit has this text
abbrev pub IsOnly : ℕ → (ℕ → List ℕ) → List ℕ → ℕ → Type 0
IsOnly limit text_of text n = (other : ℕ) → other < limit → text ≡ text_of other → other ≡ n

-- a text of hundredths is cut into its whole part and its two digits, and any other is cut somewhere or nowhere
abbrev pub CutsPoint : List ℕ → Option (List ℕ × List ℕ) → Type 0
CutsPoint text cut = MatchOption cut ((n : ℕ) → n < 10 ^ 8 → text ≢ hundredths n)
    (λ parts. (text ≡ parts.0 ++ 46 ∷ parts.1) × ((n : ℕ) → n < 10 ^ 8 → text ≡ hundredths n
    → (parts.0 ≡ decimal (n / 100)) × (parts.1 ≡ two_digits (n % 100))))

-- before a body that does not begin with a minus, this is the sign, and this the body
abbrev pub IsOnlySign : List ℕ → Bool → List ℕ → Type 0
IsOnlySign text negative rest = (sign : Bool) (body : List ℕ) → slice_index body 0 ≢ 45
    → text ≡ sign_text sign ++ body → (sign ≡ negative) × (body ≡ rest)

-- a number with an exponent that is so many hundredths
pub record IsForm (number : ℕ) (negative : Bool) (magnitude : ℕ) : Type 0 where
  pub bound : number < 2 ^ 16
  pub valid : number ≢ 0x7fff
  pub sign : is_negative number ≡ negative
  pub size : magnitude_of number ≡ magnitude

-- the form with the least exponent, or there is none
abbrev pub IsLeastOf : Bool → ℕ → Option ℕ → Type 0
IsLeastOf negative magnitude found = MatchOption found ((n : ℕ) → ¬ IsForm n negative magnitude)
    (λ n. IsForm n negative magnitude
    × ((other : ℕ) → IsForm other negative magnitude → exponent_of n ≤ exponent_of other))

-- the form with this exponent, or there is none
abbrev pub IsFormAt : ℕ → Bool → ℕ → Option ℕ → Type 0
IsFormAt exponent negative magnitude found =
    MatchOption found ((n : ℕ) → IsForm n negative magnitude → exponent_of n ≢ exponent)
    (λ n. IsForm n negative magnitude × (exponent_of n ≡ exponent))
