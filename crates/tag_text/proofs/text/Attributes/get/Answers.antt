use Rattle.tag_text.proofs.AttributeLemmas.{none_found}
use Rattle.tag_text.proofs.text.Attributes.get.Goals as goal

pub returns-clause-none : goal.returns-clause-none
returns-clause-none c = none_found _ _ _ c.named.ensures.value
