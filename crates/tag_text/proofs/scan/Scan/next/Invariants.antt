use Rattle.std.proofs.Common.{◌≡◌, length}
use Rattle.tag_text.specs.Document.{left_of}
use Rattle.tag_text.specs.Scan.{state_of}
use Rattle.tag_text.proofs.scan.Scan.next.Given as goal

-- a piece that gives nothing changes nothing of what is left
abbrev pub invariant-pieces : goal.invariant-pieces
invariant-pieces l = left_of (state_of l.self) ≡ left_of (state_of l.fn.self)

abbrev pub decreases-pieces : goal.decreases-pieces
decreases-pieces l = length l.self.rest.now
