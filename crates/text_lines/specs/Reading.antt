-- Statement: reading the current file through a store of octets that were read and not yet taken: the held octets.
use Rattle.std.specs.Prelude.{◌≡◌, ◌≢◌, ℕ, ◌+◌, ◌-◌, ◌<◌, ◌≤◌, List, [], ◌∷◌, ◌++◌, length, drop, Option, Some, None, IsSome, MatchOption}
use Rattle.std.specs.Option.{IsSomeAnd}
use Rattle.std.specs.Str.Lines.{lines}
use Rattle.knx_base.specs.Files.{Seen, Holds, last_place}
use Rattle.text_lines.specs.Lines.{most_octets}
use Rattle.text_lines.specs.declared.text_line.LineRead.{LineRead}
use Rattle.text_lines.specs.declared.text_line.LineRead.TheVariants.{End, Whole, Long}

-- it is told that the current file has these octets
abbrev pub CurrentHas : Seen → List ℕ → Type 0
CurrentHas seen octets = IsSomeAnd seen.current (λ name. Holds seen name octets)

-- where the octets of the current file are told, this holds of them
abbrev pub WhereTold : Seen → (List ℕ → Type 0) → Type 0
WhereTold seen P = (octets : List ℕ) → CurrentHas seen octets → P octets

-- of a file with these octets, what is still to be taken: the held octets, and what was not yet read
abbrev pub ahead : Seen → List ℕ → List ℕ → List ℕ
ahead seen held octets = held ++ drop seen.place octets

-- at most so many octets are still to be taken from any file
abbrev pub to_come : Seen → List ℕ → ℕ
to_come seen held = (last_place - seen.place) + length held

-- nothing was opened, and no place changed but in the current file
pub record OthersStay (old new : Seen) : Type 0 where
  pub opened : new.opened ≡ old.opened
  pub places : (other : List ℕ) → old.current ≢ Some other → new.places other ≡ old.places other

-- The current file was read on from one moment to another without a fault, and at least n octets were taken.
pub record GoesOn (old new : Seen) (held kept : List ℕ) (n : ℕ) : Type 0 where
  pub told : new.told ≡ old.told
  pub current : new.current ≡ old.current
  pub forward : old.place ≤ new.place
  pub last : old.place ≤ last_place → new.place ≤ last_place
  pub taken : old.place + length kept + n ≤ new.place + length held
  pub less : to_come new kept + n ≤ to_come old held
  pub placed : (name : List ℕ) → old.current ≡ Some name → IsSome old.told → old.places name ≡ old.place
      → new.places name ≡ new.place
  pub others : OthersStay old new
  pub within : (octets : List ℕ) → CurrentHas old octets → old.place ≤ length octets → new.place ≤ length octets
  pub no_fault : new.faults ≡ old.faults

abbrev pub count_of : Option ℕ → ℕ
count_of None = 0
count_of (Some octet) = 1

-- the next octet was taken, or there was none
abbrev pub TakesOctet : Seen → Seen → List ℕ → List ℕ → Option ℕ → Type 0
TakesOctet old new held kept octet = MatchOption octet
    ((kept ≡ []) × WhereTold old (λ octets. (ahead old held octets ≡ []) × (drop new.place octets ≡ [])))
    (λ b. WhereTold old (λ octets. ahead old held octets ≡ b ∷ ahead new kept octets))

-- a line of more octets than any may have comes first
abbrev pub BeginsLong : List (List ℕ) → Type 0
BeginsLong texts = (first : List ℕ) × (rest : List (List ℕ)) × (texts ≡ first ∷ rest) × (most_octets < length first)

-- how many octets a line took at the least
abbrev pub least_of : LineRead → ℕ
least_of End = 0
least_of Whole = 1
least_of Long = 1

-- The lines that were ahead begin with this one and go on with those that are ahead now; or there was none, to the end
-- of the file; or the first was too long.
abbrev pub ReadsLine : Seen → Seen → List ℕ → List ℕ → List ℕ → LineRead → Type 0
ReadsLine old new held kept line End =
    (kept ≡ []) × WhereTold old (λ octets. (lines (ahead old held octets) ≡ []) × (drop new.place octets ≡ []))
ReadsLine old new held kept line Whole = (length line ≤ most_octets)
    × WhereTold old (λ octets. lines (ahead old held octets) ≡ line ∷ lines (ahead new kept octets))
ReadsLine old new held kept line Long = WhereTold old (λ octets. BeginsLong (lines (ahead old held octets)))

-- Reading to the end of a file, where so many octets are the most: the octets ahead, and the end was reached; or there
-- are more.
abbrev pub ReadsRest : ℕ → List ℕ → List ℕ → Option (List ℕ) → Type 0
ReadsRest most before after None = most < length before
ReadsRest most before after (Some text) = (text ≡ before) × (length text ≤ most) × (after ≡ [])

-- The whole of a file, where so many octets are the most, and its place is at its end; or it has more.
abbrev pub ReadsWhole : ℕ → List ℕ → ℕ → Option (List ℕ) → Type 0
ReadsWhole most octets place None = most < length octets
ReadsWhole most octets place (Some text) = (text ≡ octets) × (length octets ≤ most) × (place ≡ length octets)
