-- Plumbing: files in memory, how far each was read, and which were opened.
use Rattle.std.specs.Prelude.{◌≡◌, ◌≢◌, ℕ, zero, suc, nat_eq, if◌then◌else◌, List, [], ◌∷◌, map, Option, Some, None}
use Rattle.std.specs.Cmp.Lexicographic.{pointwise}
use Rattle.knx_base.specs.Files.{File, Seen}

-- a file, and the place in it
pub record Stored : Type 0 where
  pub name : List ℕ
  pub octets : List ℕ
  pub place : ℕ

abbrev pub file_of : Stored → File
file_of stored = record { name = stored.name; octets = stored.octets }

-- the place in the first file of this name
abbrev pub place_named : List Stored → List ℕ → ℕ
place_named [] name = 0
place_named (stored ∷ rest) name = if pointwise nat_eq stored.name name then stored.place else place_named rest name

-- the place in the current file, 0 where none is current
abbrev pub current_place : List Stored → Option (List ℕ) → ℕ
current_place files None = 0
current_place files (Some name) = place_named files name

-- what is seen of such files, of which one is current by its name, and some were opened by theirs
abbrev pub seen_in_memory : List Stored → Option (List ℕ) → List (List ℕ) → ℕ → Seen
seen_in_memory files current opened faults = record {
  told = Some (map file_of files);
  current = current;
  place = current_place files current;
  places = place_named files;
  opened = opened;
  faults = faults;
}

-- the file at this place of the list is the first of this name
abbrev pub FirstAt : List Stored → ℕ → List ℕ → Type 0
FirstAt [] i name = ⊥
FirstAt (stored ∷ rest) zero name = stored.name ≡ name
FirstAt (stored ∷ rest) (suc i) name = (stored.name ≢ name) × FirstAt rest i name

-- the name of the file at this place of the list
abbrev pub name_at : List Stored → ℕ → List ℕ
name_at [] i = []
name_at (stored ∷ rest) zero = stored.name
name_at (stored ∷ rest) (suc i) = name_at rest i

-- the files, the name of the current one, and the names that were opened, in their order
pub record ShelfState : Type 0 where
  pub files : List Stored
  pub current : Option (List ℕ)
  pub opened : List (List ℕ)
