use Rattle.audit_core.proofs.Knowing.{line_after, knows_after, apdu_after}
use Rattle.audit_core.proofs.audit.Audit.frame.Goals as goal

pub returns-clause-line : goal.returns-clause-line
returns-clause-line c past knows =
    line_after c.args.self.now c.step.new.self past c.args.octets.now c.step.result knows c.step.ensures.steps

pub returns-clause-knows : goal.returns-clause-knows
returns-clause-knows c past knows =
    knows_after c.args.self.now c.step.new.self past c.args.octets.now c.step.result knows c.step.ensures.steps

pub returns-clause-opened : goal.returns-clause-opened
returns-clause-opened c past knows =
    apdu_after c.args.self.now past c.args.octets.now c.step.new.apdu c.step.result knows c.step.ensures.opened
