use Rattle.std.proofs.Common.{rules, ◌+◌, ◌-◌, ◌<◌, take, drop, length, sym, ◌∙◌, take_all, length-drop, arith}
use Rattle.text_lines.proofs.LineTexts.{line_cut, no_line_feed}
use Rattle.text_lines.proofs.lines.first_line.Goals as goal

pub returns-in-Some : goal.returns-in-Some
returns-in-Some c =
    let cut = line_cut c.args.text.now (take (length c.args.text.now - (c.in-Some.end + 1))
    (drop (c.in-Some.end + 1) c.args.text.now)) c.in-Some.end
    (sym c.place_of_line_feed.ensures.place ∙ c.in-Some.is) (take_all _ _
    (omega (arith, length-drop (c.in-Some.end + 1) c.args.text.now))) in
    record { cut = (search (rules, cut), search (rules, cut)) }

pub returns-in-None : goal.returns-in-None
returns-in-None c =
    let some : 0 < length c.args.text.now = search rules in
    record { cut = (no_line_feed c.args.text.now (sym c.place_of_line_feed.ensures.place ∙ c.in-None.is) some, some) }
