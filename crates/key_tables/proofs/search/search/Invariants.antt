use Rattle.std.proofs.Common.{◌-◌, length}
use Rattle.key_tables.proofs.Searching.{Halves, IsLeft}
use Rattle.key_tables.proofs.search.search.Given as goal

abbrev pub invariant-search : goal.invariant-search
invariant-search g l =
    IsLeft l.index l.wanted l.low l.high × Halves (length l.index) (l.high - l.low) l.initial.steps l.steps

abbrev pub decreases-search : goal.decreases-search
decreases-search g l = l.high - l.low
