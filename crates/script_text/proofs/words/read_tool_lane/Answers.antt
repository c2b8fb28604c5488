use Rattle.std.proofs.Common.{arith}
use Rattle.std.proofs.lemmas.Str.Pattern.{split_once_first}
use Rattle.script_text.proofs.LaneTexts.{without_colon, when_none}
use Rattle.script_text.proofs.words.read_tool_lane.Goals as goal

pub returns-in-None : goal.returns-in-None
returns-in-None c =
    without_colon c.args.two.now
    (when_none _ c.split_once.result c.in-None.is (split_once_first 58 c.args.two.now c.split_once.result
    c.split_once.ensures.cases (omega arith)))
