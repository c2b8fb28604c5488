-- Statement: a sink in memory that can be told to fail.
use Rattle.std.specs.Prelude.{ℕ, ◌-◌, ◌==◌, ◌||◌, Bool, List, ◌++◌, length, take, min}
use Rattle.std.specs.List.{list_any}
use Rattle.knx_base.specs.Faults.{counted}

pub record MemSinkState : Type 0 where
  -- what was taken
  pub octets : List ℕ
  -- how many octets it takes in all
  pub room : ℕ
  -- the numbers of the writes that are to fail, counted from 1
  pub armed : List ℕ
  -- how many writes there were, and how many failed
  pub calls : ℕ
  pub faults : ℕ

-- the next write fails: it is armed, or nothing fits
abbrev pub is_refused : MemSinkState → Bool
is_refused s = list_any (λ call. call == counted s.calls) s.armed || (s.room - length s.octets) == 0

-- how many of these octets fit
abbrev pub fitting : MemSinkState → List ℕ → ℕ
fitting s bytes = min (length bytes) (s.room - length s.octets)

abbrev pub after_refusal : MemSinkState → MemSinkState
after_refusal s = record s { calls = counted s.calls; faults = counted s.faults }

abbrev pub after_write : MemSinkState → List ℕ → MemSinkState
after_write s bytes = record s { octets = s.octets ++ take (fitting s bytes) bytes; calls = counted s.calls }
