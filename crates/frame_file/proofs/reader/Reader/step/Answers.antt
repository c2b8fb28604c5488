use Rattle.frame_file.specs.State.{state_of}
use Rattle.frame_file.proofs.LoggedLemmas.{log_gives}
use Rattle.frame_file.proofs.reader.Reader.step.Goals as goal

pub returns-in-Log-clause-steps : goal.returns-in-Log-clause-steps
returns-in-Log-clause-steps g c =
    log_gives (g.F.Files.seen c.args.files.now) (state_of c.args.self.now) (state_of c.next_logged.new.self)
    c.in-Log.field-0 c.next_logged.result c.requires.at c.in-Log.is c.next_logged.ensures.gives
