use Rattle.std.proofs.Common.{sym, ◌∙◌, rules}
use Rattle.text_lines.proofs.LineTexts.{no_word, word_cut}
use Rattle.text_lines.proofs.lines.first_word.Goals as goal

pub returns-in_default-clause-cut : goal.returns-in_default-clause-cut
returns-in_default-clause-cut c = no_word c.args.text.now (sym c.place_of_word.ensures.place ∙ c.in_default.is)

pub returns-clause-cut : goal.returns-clause-cut
returns-clause-cut c =
    let cut = word_cut c.args.text.now c.split_at.result.1.now c.in-Some.begin c.place_of_blank.result
    (sym c.place_of_word.ensures.place ∙ c.in-Some.is) c.split_at.ensures.back c.place_of_blank.ensures.place in
    search (rules, cut)
