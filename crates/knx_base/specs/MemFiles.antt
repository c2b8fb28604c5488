-- Statement: files in memory of which chosen calls fail.
use Rattle.std.specs.Prelude.{ℕ, ◌==◌, Bool, List, Option}
use Rattle.std.specs.List.{list_any}
use Rattle.knx_base.specs.Faults.{counted}
use Rattle.knx_base.specs.Files.{Seen}
use Rattle.knx_base.specs.Shelf.{Stored, seen_in_memory}

pub record MemFilesState : Type 0 where
  -- the files, in the order in which they were added
  pub files : List Stored
  -- the name of the current one
  pub current : Option (List ℕ)
  -- the names that were opened, in their order
  pub opened : List (List ℕ)
  -- the numbers of the calls that are to fail, counted from 1 over open and read
  pub armed : List ℕ
  -- how many calls there were, and how many failed
  pub calls : ℕ
  pub faults : ℕ

abbrev pub seen_of : MemFilesState → Seen
seen_of s = seen_in_memory s.files s.current s.opened s.faults

-- the next call fails
abbrev pub is_armed : MemFilesState → Bool
is_armed s = list_any (λ call. call == counted s.calls) s.armed
