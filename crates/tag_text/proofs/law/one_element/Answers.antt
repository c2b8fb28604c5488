use Rattle.tag_text.proofs.ElementLemmas.{whole_read, whole_found}
use Rattle.tag_text.proofs.law.one_element.Goals as goal

pub returns-clause-read : goal.returns-clause-read
returns-clause-read c = whole_read

pub returns-clause-only : goal.returns-clause-only
returns-clause-only c = whole_found
