use Rattle.std.proofs.Common.{ap}
use Rattle.audit_core.specs.Audit.{judged_of}
use Rattle.audit_core.specs.Marks.{mark_in}
use Rattle.audit_core.proofs.audit.Audit.new.Goals as goal

pub returns-clause-none : goal.returns-clause-none
unfolding judged_of
returns-clause-none c = record {
  marks = λ lane. ap (λ marks. mark_in marks lane) c.new.ensures.marks;
  asked = c.new.ensures.asked;
  total = c.new-2.ensures;
}
