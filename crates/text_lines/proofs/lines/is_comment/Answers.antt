use Rattle.std.proofs.Common.{rules, sym, ◌∙◌}
use Rattle.text_lines.proofs.LineTexts.{comment_at, no_comment}
use Rattle.text_lines.proofs.lines.is_comment.Goals as goal

pub returns-in-Some : goal.returns-in-Some
returns-in-Some c =
    let comment = comment_at c.args.line.now c.in-Some.begin (sym c.place_of_word.ensures.place ∙ c.in-Some.is) in
    search (rules, comment)

pub returns-in-None : goal.returns-in-None
returns-in-None c =
    record { comment = sym (no_comment c.args.line.now (sym c.place_of_word.ensures.place ∙ c.in-None.is)) }
