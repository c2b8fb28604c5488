-- Statement: files in memory of which no call fails: what is seen of them has no fault.
use Rattle.knx_base.specs.Files.{Seen}
use Rattle.knx_base.specs.Shelf.{ShelfState, seen_in_memory}

abbrev pub seen_of : ShelfState → Seen
seen_of s = seen_in_memory s.files s.current s.opened 0
