use Rattle.std.proofs.Common.{◌≡◌, drop, length}
use Rattle.std.specs.List.{enumerate_from}
use Rattle.install_run.specs.Report.{numbered_line}
use Rattle.knxsec_app.proofs.Paging.{IsPassed}
use Rattle.knxsec_app.proofs.playing.pass_steps.Given as goal

-- the lines so far are passed on
abbrev pub invariant-loop-step : goal.invariant-loop-step
invariant-loop-step g l =
    let lines = enumerate_from 1 l.world.history in
    record {
      passed : IsPassed (numbered_line l.world.world) lines (drop l.step lines) l.page.held
          (g.S.Sink.octets l.fn.out) (g.S.Sink.octets l.out);
      kept : g.S.Sink.faults l.out ≡ g.S.Sink.faults l.fn.out;
      end : l.step-end ≡ length l.world.history;
    }
