use Rattle.std.proofs.Common.{rules, ap, sym, ◌∙◌}
use Rattle.cemi_frames.specs.Frames.{telegram}
use Rattle.judge_rules.specs.Checks.{verdict_of, kept_by, opened_by}
use Rattle.judge_rules.specs.Seen.{seen}
use Rattle.judge_rules.proofs.Keeping.{keeps_on_lane, keeps_above}
use Rattle.judge_rules.proofs.Asking.{said_ask_keeps_nothing}
use Rattle.judge_rules.proofs.Entering.{refused_verdict, refused_keeps, refused_opened}
use Rattle.judge_rules.proofs.entry.Entry.judge.Goals as goal

pub returns-in-Ok-clause-lane : goal.returns-in-Ok-clause-lane
returns-in-Ok-clause-lane c =
    keeps_on_lane c.args.self.now.rows c.args.kept c.args.asked c.args.self.now.telegram c.judge.result.keeps
    (search rules)

pub returns-in-Ok-clause-above : goal.returns-in-Ok-clause-above
returns-in-Ok-clause-above c =
    keeps_above c.args.self.now.rows c.args.kept c.args.asked c.args.self.now.telegram c.judge.result.keeps
    (search rules)

pub returns-in-Ok-clause-ask_keeps_nothing : goal.returns-in-Ok-clause-ask_keeps_nothing
returns-in-Ok-clause-ask_keeps_nothing c =
    said_ask_keeps_nothing c.args.self.now.rows c.args.kept c.args.asked c.args.self.now.telegram
    c.judge.result.verdict c.judge.result.keeps (search rules) (search rules)

pub returns-in-Err-clause-verdict : goal.returns-in-Err-clause-verdict
returns-in-Err-clause-verdict c =
    let found = c.in-Err.found in
    c.refused.ensures.verdict
    ∙ sym (refused_verdict found.tables.now c.args.kept c.args.asked (telegram found.frame) found.verdict found.first)
    ∙ ap (λ entry. verdict_of entry.rows c.args.kept c.args.asked entry.telegram)
    (ap seen (sym c.in-Err.is) ∙ c.self.view_is)

pub returns-in-Err-clause-keeps : goal.returns-in-Err-clause-keeps
returns-in-Err-clause-keeps c =
    let found = c.in-Err.found in
    c.refused.ensures.keeps
    ∙ sym (refused_keeps found.tables.now c.args.kept c.args.asked (telegram found.frame) found.verdict found.first)
    ∙ ap (λ entry. kept_by entry.rows c.args.kept c.args.asked entry.telegram)
    (ap seen (sym c.in-Err.is) ∙ c.self.view_is)

pub returns-in-Err-clause-opened : goal.returns-in-Err-clause-opened
returns-in-Err-clause-opened c =
    let found = c.in-Err.found in
    c.clear.ensures.empty
    ∙ sym (refused_opened found.tables.now c.args.asked (telegram found.frame) found.verdict found.first)
    ∙ ap (λ entry. opened_by entry.rows c.args.asked entry.telegram) (ap seen (sym c.in-Err.is) ∙ c.self.view_is)
