-- The rows and the telegram of an entry, whether it has a channel or was refused: plumbing for its model.
use Rattle.std.specs.Prelude.{Result, Ok, Err}
use Rattle.cemi_frames.specs.Frames.{telegram}
use Rattle.judge_rules.specs.declared.entered.Entered.{Entered}
use Rattle.judge_rules.specs.declared.entered.Refused.{Refused}
use Rattle.judge_rules.specs.Entry.{Entering}

abbrev pub seen : Result Entered Refused → Entering
seen (Ok entered) = record { rows = entered.tables.now; telegram = telegram entered.frame }
seen (Err refused) = record { rows = refused.tables.now; telegram = telegram refused.frame }
