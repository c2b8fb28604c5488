use Rattle.std.proofs.Common.{arith, ap, length, sym, ◌∙◌}
use Rattle.tag_text.proofs.OctetLemmas.{after_mark_splits}
use Rattle.tag_text.proofs.ValueLemmas.{one_line_end, one_break}
use Rattle.tag_text.proofs.value.after_break.Goals as goal

pub returns-in-Some-clause-after : goal.returns-in-Some-clause-after
returns-in-Some-clause-after c =
    one_line_end c.args.text.now c.in-Some.after.now (sym (rw c.in-Some.is at c.after_mark.ensures.after))

pub returns-in-Some-clause-less : goal.returns-in-Some-clause-less
returns-in-Some-clause-less c =
    omega (
      arith,
      ap length (after_mark_splits _ c.args.text.now c.in-Some.after.now
          (sym (rw c.in-Some.is at c.after_mark.ensures.after))),
    )

pub returns-then-is_break-clause-after : goal.returns-then-is_break-clause-after
returns-then-is_break-clause-after c =
    one_break c.args.text.now c.in-Some-first_octet.octet c.in-Some-first_octet.after.now
    c.in-Some-first_octet.ensures.some
    (sym c.is_break.ensures.break_ ∙ c.if-is_break.true) (sym (rw c.in_default.is at c.after_mark.ensures.after))
