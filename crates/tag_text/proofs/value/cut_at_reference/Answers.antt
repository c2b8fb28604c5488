use Rattle.std.proofs.Common.{arith}
use Rattle.tag_text.proofs.OctetLemmas.{cut_is, no_cut}
use Rattle.tag_text.proofs.value.cut_at_reference.Goals as goal

pub returns-in-Some-clause-parts : goal.returns-in-Some-clause-parts
returns-in-Some-clause-parts c =
    (cut_is 38 c.args.text.now c.in-Some.front.now c.in-Some.rest.now (rw c.in-Some.is at c.cut_at.ensures.parts)).parts

pub returns-in-Some-clause-less : goal.returns-in-Some-clause-less
returns-in-Some-clause-less c =
    omega (
      arith,
      (cut_is 38 c.args.text.now c.in-Some.front.now c.in-Some.rest.now
          (rw c.in-Some.is at c.cut_at.ensures.parts)).less,
    )

pub returns-in-None-clause-parts : goal.returns-in-None-clause-parts
returns-in-None-clause-parts c = no_cut 38 c.args.text.now (rw c.in-None.is at c.cut_at.ensures.parts)
