-- Statement: what a contract sees of a frame that was entered.
use Rattle.std.specs.Prelude.{List}
use Rattle.cemi_frames.specs.Frames.{Telegram}
use Rattle.key_tables.specs.declared.types.Row.{Row}

pub record Entering : Type 0 where
  -- the rows that it is judged under
  pub rows : List Row
  pub telegram : Telegram
