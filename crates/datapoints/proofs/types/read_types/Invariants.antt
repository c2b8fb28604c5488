use Rattle.std.proofs.Common.{ℕ, List, length}
use Rattle.std.specs.Str.Lines.{lines}
use Rattle.datapoints.proofs.TypeLines.{HasRead}
use Rattle.datapoints.proofs.types.read_types.Given as goal

abbrev pub invariant-lines : goal.invariant-lines
invariant-lines l = (done : List (List ℕ)) × HasRead (lines l.bytes) done l.lines.left l.lines.given l.types

abbrev pub decreases-lines : goal.decreases-lines
decreases-lines l = length l.lines.left
