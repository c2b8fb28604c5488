use Rattle.std.proofs.Common.{◌≡◌, ◌≤◌, ◌-◌, None}
use Rattle.frame_file.specs.Logs.{most_logged}
use Rattle.frame_file.specs.Next.{IsAtPlace, ReadsOn}
use Rattle.knxsec_app.proofs.SoFar.{SoFar}
use Rattle.knxsec_app.proofs.auditing.audit_current.Given as goal

abbrev pub invariant-records : goal.invariant-records
invariant-records g l = record {
  no_fault : l.records.fault ≡ None;
  at : IsAtPlace (g.F.Files.seen l.files) l.records;
  goes : ReadsOn (g.F.Files.seen l.fn.files) (g.F.Files.seen l.files);
  counted : l.audit.total.records ≡ l.records.given;
  few : l.records.given ≤ most_logged;
  so_far : SoFar (g.W.Showing.shown l.fn.showing) (g.F.Files.seen l.fn.files) (g.F.Files.seen l.files) l.fn.tables
      l.audit l.records l.page.held
      (g.S.Sink.octets l.fn.out) (g.S.Sink.octets l.out);
  kept : g.S.Sink.faults l.out ≡ g.S.Sink.faults l.fn.out;
}

abbrev pub decreases-records : goal.decreases-records
decreases-records g l = most_logged - l.records.given
