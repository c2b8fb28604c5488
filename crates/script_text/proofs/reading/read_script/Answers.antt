use Rattle.std.proofs.Common.{sym, subst, ◌∙◌}
use Rattle.std.specs.Str.Lines.{lines}
use Rattle.script_text.proofs.Scripts.{HasRead, IsReadUpTo, begun, line_taken, line_refused, all_read}
use Rattle.script_text.proofs.reading.read_script.Goals as goal

pub lines-preserved : goal.lines-preserved
lines-preserved c = record {
  read = subst (λ given. HasRead c.args.bytes.now c.take_line.new.reader.lists given c.next.new.self.left)
      (sym c.in-Some.ensures.number.1)
      (subst (λ given. HasRead c.args.bytes.now c.take_line.new.reader.lists given c.next.new.self.left)
      (sym c.in-Some.ensures.number.0)
      (line_taken _ _ _ _ _ _ _ c.lines.invariant.read c.in-Some.ensures.line c.in-Some.ensures.number.0 _
      c.in_ok-take_line.ensures.taken));
  known = c.in_ok-take_line.ensures.known;
}
