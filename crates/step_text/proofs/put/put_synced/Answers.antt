use Rattle.std.proofs.Common.{◌++◌, ap, ◌∙◌, append_assoc}
use Rattle.std.specs.Prelude.{codes}
use Rattle.std.specs.Fmt.{decimal}
use Rattle.step_text.specs.Text.{synced_text}
use Rattle.step_text.proofs.put.put_synced.Goals as goal

pub returns-clause-added : goal.returns-clause-added
returns-clause-added c =
    c.put_two_numbers.ensures.added
    ∙ ap (λ front. front ++ (codes " kept " ++ decimal c.get-2.result ++ codes " next " ++ decimal c.args.next))
    c.put_number.ensures.added
    ∙ append_assoc c.args.line.now (codes "synced number " ++ decimal c.get.result)
    (codes " kept " ++ decimal c.get-2.result ++ codes " next " ++ decimal c.args.next)
    ∙ ap (λ n. c.args.line.now ++ synced_text n c.get-2.result c.args.next) c.get.ensures.value
    ∙ ap (λ n. c.args.line.now ++ synced_text c.args.number n c.args.next) c.get-2.ensures.value
