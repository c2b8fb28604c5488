-- Statement: what is seen of a set of files, and what opening and reading do to it.
use Rattle.std.specs.Prelude.{◌≡◌, ◌≢◌, ℕ, ◌+◌, ◌^◌, ◌≤◌, nat_eq, if◌then◌else◌, List, [], ◌∷◌, ◌++◌, length, take, drop, Option, Some, None, IsSome, Result, OnOk, OnErr, IfOk}
use Rattle.std.specs.Option.{IsSomeAnd}
use Rattle.std.specs.Cmp.Lexicographic.{pointwise}
use Rattle.knx_base.specs.Faults.{HasCause}

-- a file by its name and its octets
pub record File : Type 0 where
  pub name : List ℕ
  pub octets : List ℕ

-- the octets of the first file of this name
abbrev pub octets_named : List File → List ℕ → Option (List ℕ)
octets_named [] name = None
octets_named (file ∷ files) name = if pointwise nat_eq file.name name then Some file.octets else octets_named files name

-- there is a file of this name
abbrev pub IsThere : List File → List ℕ → Type 0
IsThere files name = IsSome (octets_named files name)

-- no read goes past this place of a file, 2^40
abbrev pub last_place : ℕ
last_place = 2 ^ 40

-- what is seen of files
pub record Seen : Type 0 where
  -- the files, where their names and octets are told
  pub told : Option (List File)
  -- None where no file is current; else its name, and no name where none are told
  pub current : Option (List ℕ)
  -- the place in the current file
  pub place : ℕ
  -- the place in the file of each name, where names are told
  pub places : List ℕ → ℕ
  -- the names that were opened, in their order, where names are told
  pub opened : List (List ℕ)
  -- how many faults there were
  pub faults : ℕ

-- it is told that the file of this name has these octets
abbrev pub Holds : Seen → List ℕ → List ℕ → Type 0
Holds seen name octets = IsSomeAnd seen.told (λ files. octets_named files name ≡ Some octets)

-- the named file is current, at its start
pub record IsAtStart (old new : Seen) (name : List ℕ) : Type 0 where
  pub current : IsSome new.current
  pub named : IsSome old.told → new.current ≡ Some name
  pub place : new.place ≡ 0
  pub start : IsSome old.told → new.places name ≡ 0

-- what a call of `open` does: whether it fails or not, its name alone is opened, and no other file's place changes
pub record Opens {T E : Type 0} (old new : Seen) (name : List ℕ) (result : Result T E) : Type 0 where
  pub told : new.told ≡ old.told
  pub opened : OnOk result (IsAtStart old new name)
  pub closed : OnErr result (new.current ≡ None)
  pub listed : IsSome old.told → new.opened ≡ old.opened ++ name ∷ []
  pub others : (other : List ℕ) → other ≢ name → new.places other ≡ old.places other
  pub cause : HasCause old.faults new.faults result

-- the current file gave its next n octets to the front of the buffer, none only at its end
pub record MovesOn (old new : Seen) (buffer : List ℕ) (n : ℕ) : Type 0 where
  pub bound : n ≤ length buffer
  pub current : new.current ≡ old.current
  pub place : new.place ≡ old.place + n
  pub last : new.place ≤ last_place
  pub given : (name octets : List ℕ) → old.current ≡ Some name → Holds old name octets
      → take n buffer ≡ take n (drop old.place octets)
  pub end : (name octets : List ℕ) → old.current ≡ Some name → Holds old name octets
      → n ≡ 0 → drop old.place octets ≡ []
  pub moved : (name : List ℕ) → old.current ≡ Some name → IsSome old.told → new.places name ≡ new.place

-- what a call of `read` does: whether it fails or not, nothing is opened, and no place changes but in the current file
pub record Reads {E : Type 0} (old new : Seen) (buffer : List ℕ) (result : Result ℕ E) : Type 0 where
  pub told : new.told ≡ old.told
  pub moves : IfOk result (MovesOn old new buffer)
  pub opened : new.opened ≡ old.opened
  pub others : (other : List ℕ) → old.current ≢ Some other → new.places other ≡ old.places other
  pub cause : HasCause old.faults new.faults result
