use Rattle.datapoints.proofs.TextLemmas.{cuts_point}
use Rattle.datapoints.proofs.number_texts.cut_at_point.Goals as goal

pub returns : goal.returns
returns c = cuts_point c.args.text.now c.split_once.result c.split_once.ensures.cases
