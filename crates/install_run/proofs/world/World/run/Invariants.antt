use Rattle.std.proofs.Common.{◌≡◌, ◌+◌, length, take}
use Rattle.install_run.specs.World.{HasRun, KeepsScript}
use Rattle.install_run.proofs.world.World.run.Given as goal

-- the events so far
abbrev pub invariant-loop-event : goal.invariant-loop-event
invariant-loop-event l = record {
  run : HasRun (take l.event-index l.events) l.fn.self l.self;
  script : KeepsScript l.fn.self l.self;
  noted : length l.self.history ≡ length l.fn.self.history + l.event-index;
}
