-- Statement: what is seen of the host's files, which tell neither names nor octets.
use Rattle.std.specs.Prelude.{ℕ, List, [], Option, None}
use Rattle.knx_base.specs.Files.{Seen}

pub record HostState : Type 0 where
  -- no name where a file is current
  pub current : Option (List ℕ)
  -- the octets that the host will still give of it, where the host tells them
  pub remaining : Option (List ℕ)
  pub place : ℕ
  pub faults : ℕ

abbrev pub seen_of : HostState → Seen
seen_of s =
    record { told = None; current = s.current; place = s.place; places = λ _. 0; opened = []; faults = s.faults }
