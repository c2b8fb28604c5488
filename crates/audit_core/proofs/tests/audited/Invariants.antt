use Rattle.std.proofs.Common.{◌≤◌}
use Rattle.audit_core.proofs.tests.audited.Given as goal

abbrev pub invariant-loop-frame : goal.invariant-loop-frame
invariant-loop-frame l = l.audit.total.records ≤ l.frame-index
