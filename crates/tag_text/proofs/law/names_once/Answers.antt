use Rattle.tag_text.proofs.NameLemmas.{events_once}
use Rattle.tag_text.proofs.law.names_once.Goals as goal

pub returns : goal.returns
returns c = events_once
