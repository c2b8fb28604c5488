use Rattle.tag_text.proofs.OctetLemmas.{after_mark_is}
use Rattle.tag_text.proofs.octets.after_mark.Goals as goal

pub returns : goal.returns
returns c = record { after = after_mark_is _ _ _ c.strip_prefix.ensures.cases }
