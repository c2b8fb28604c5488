use Rattle.std.proofs.Common.{◌≡◌, ◌≤◌, [], ◌++◌, length, drop}
use Rattle.text_lines.specs.Reading.{GoesOn, WhereTold, to_come}
use Rattle.text_lines.proofs.whole_file.read_rest.Given as goal

abbrev pub invariant-pieces : goal.invariant-pieces
invariant-pieces g l = record {
  goes : GoesOn (g.F.Files.seen l.fn.files) (g.F.Files.seen l.files) [] [] 0;
  empty : l.source ≡ [];
  room : length l.text.items ≤ l.most;
  given : WhereTold (g.F.Files.seen l.fn.files) (λ octets. drop (g.F.Files.seen l.fn.files).place octets ≡ l.text.items
      ++ drop (g.F.Files.seen l.files).place octets);
}

abbrev pub decreases-pieces : goal.decreases-pieces
decreases-pieces g l = to_come (g.F.Files.seen l.files) []
