use Rattle.std.proofs.Common.{arith, sym}
use Rattle.tag_text.proofs.PieceLemmas.{after_mark_less}
use Rattle.tag_text.proofs.scan.after_order_mark.Goals as goal

pub returns-in-Some-clause-less : goal.returns-in-Some-clause-less
returns-in-Some-clause-less c =
    omega (arith, after_mark_less _ c.args.text.now c.in-Some.after.now (sym c.in-Some.ensures.after))
