use Rattle.std.proofs.Common.{rules}
use Rattle.text_lines.proofs.LineTexts.{first_place}
use Rattle.text_lines.proofs.lines.place_of_line_feed.Goals as goal

pub returns : goal.returns
returns c =
    let place = first_place c.args.text.now c.memchr.result c.memchr.ensures in
    search (rules, place)
