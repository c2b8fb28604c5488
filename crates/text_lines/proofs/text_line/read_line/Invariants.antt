use Rattle.std.proofs.Common.{◌≡◌, ◌-◌, ◌≤◌, ◌++◌, length}
use Rattle.text_lines.specs.Pieces.{IsOneLine}
use Rattle.text_lines.specs.Reading.{GoesOn, WhereTold, ahead}
use Rattle.text_lines.proofs.text_line.read_line.Given as goal

abbrev pub invariant-pieces : goal.invariant-pieces
invariant-pieces g l = record {
  goes : GoesOn (g.F.Files.seen l.fn.files) (g.F.Files.seen l.files) l.fn.source l.source (length l.line);
  room : length l.line ≤ 1025;
  none : IsOneLine l.line;
  given : WhereTold (g.F.Files.seen l.fn.files) (λ octets. ahead (g.F.Files.seen l.fn.files) l.fn.source octets ≡ l.line
      ++ ahead (g.F.Files.seen l.files) l.source octets);
}

abbrev pub decreases-pieces : goal.decreases-pieces
decreases-pieces g l = 1025 - length l.line
