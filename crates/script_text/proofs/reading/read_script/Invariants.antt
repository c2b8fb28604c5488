use Rattle.std.proofs.Common.{◌≡◌, length}
use Rattle.script_text.proofs.Scripts.{IsReadUpTo}
use Rattle.script_text.proofs.reading.read_script.Given as goal

abbrev pub invariant-lines : goal.invariant-lines
invariant-lines l = IsReadUpTo l.bytes l.reader.lists l.reader.lanes.items l.lines

abbrev pub decreases-lines : goal.decreases-lines
decreases-lines l = length l.lines.left
