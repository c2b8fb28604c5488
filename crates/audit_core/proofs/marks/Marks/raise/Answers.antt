use Rattle.std.proofs.Common.{ap, subst, ◌∙◌}
use Rattle.std.specs.Prelude.{if◌then◌else◌, IsOk}
use Rattle.std.proofs.lemmas.Bool.{false≢true}
use Rattle.key_tables.specs.Lanes.{same_lane}
use Rattle.audit_core.specs.Marks.{mark_in}
use Rattle.audit_core.proofs.Lanes.{mark_updated}
use Rattle.audit_core.proofs.marks.Marks.raise.Goals.{in-Ok, in-Err}
use Rattle.audit_core.proofs.marks.Marks.raise.Goals as goal

pub returns-clause-raised : goal.returns-clause-raised
returns-clause-raised c ok other = elim c.match-insert.branch [
  | in-Ok w ↦ mark_updated c.self.inside.kept.entries c.insert.new.self.entries c.args.lane c.args.number
      w.in-Ok.ensures.updates.0 other
      ∙ ap (λ marks. if same_lane c.args.lane other then c.args.number else mark_in marks other) c.self.view_is
  | in-Err w ↦ elim (false≢true (subst IsOk w.result-is ok)) [ ]
]
