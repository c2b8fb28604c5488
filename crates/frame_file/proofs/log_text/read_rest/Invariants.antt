use Rattle.std.proofs.Common.{◌≡◌, ◌≤◌, ◌++◌, length}
use Rattle.text_lines.specs.Reading.{GoesOn, WhereTold, ahead, to_come}
use Rattle.frame_file.proofs.log_text.read_rest.Given as goal

abbrev pub invariant-pieces : goal.invariant-pieces
invariant-pieces g l = record {
  goes : GoesOn (g.F.Files.seen l.fn.files) (g.F.Files.seen l.files) l.fn.source l.source 0;
  room : length l.text.items ≤ 16777216;
  given : WhereTold (g.F.Files.seen l.fn.files) (λ octets. l.fn.text.items
      ++ ahead (g.F.Files.seen l.fn.files) l.fn.source octets
      ≡ l.text.items ++ ahead (g.F.Files.seen l.files) l.source octets);
}

abbrev pub decreases-pieces : goal.decreases-pieces
decreases-pieces g l = to_come (g.F.Files.seen l.files) l.source
