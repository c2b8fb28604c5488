use Rattle.std.proofs.Common.{◌∙◌, refl, sym, arith}
use Rattle.text_lines.proofs.LineSays.{says_skipped, not_skipped}
use Rattle.text_lines.proofs.lines.judge_line.Goals as goal

pub returns-then-is_comment-clause-says : goal.returns-then-is_comment-clause-says
returns-then-is_comment-clause-says c = (
  omega (arith, c.if-line-gt-MOST_OCTETS.false),
  says_skipped c.args.line.now
      (sym c.is_comment.ensures.comment ∙ c.if-is_comment.true),
)

pub returns-then-is_printable-clause-says : goal.returns-then-is_printable-clause-says
returns-then-is_printable-clause-says c = (
  omega (arith, c.if-line-gt-MOST_OCTETS.false),
  not_skipped c.args.line.now
      (sym c.is_comment.ensures.comment ∙ c.if-is_comment.false),
  sym c.is_printable.ensures.printable
      ∙ c.if-is_printable.true,
  refl,
)

pub returns-else-is_printable-clause-says : goal.returns-else-is_printable-clause-says
returns-else-is_printable-clause-says c = (
  omega (arith, c.if-line-gt-MOST_OCTETS.false),
  not_skipped c.args.line.now
      (sym c.is_comment.ensures.comment ∙ c.if-is_comment.false),
  sym c.is_printable.ensures.printable
      ∙ c.if-is_printable.false,
)
