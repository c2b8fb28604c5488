use Rattle.std.proofs.Common.{ℕ, List, length}
use Rattle.std.specs.Str.Lines.{lines}
use Rattle.key_tables.proofs.TextLemmas.{HasRead}
use Rattle.key_tables.proofs.reading.read_tables.Given as goal

abbrev pub invariant-lines : goal.invariant-lines
invariant-lines l = (done : List (List ℕ)) × HasRead (lines l.bytes) done l.lines.left l.lines.given l.list

abbrev pub decreases-lines : goal.decreases-lines
decreases-lines l = length l.lines.left
