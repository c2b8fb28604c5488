use Rattle.tag_text.proofs.LawLemmas.{document_is, is_document}
use Rattle.tag_text.proofs.law.one_outcome.Goals as goal

pub returns-clause-there : goal.returns-clause-there
returns-clause-there c = is_document

pub returns-clause-only : goal.returns-clause-only
returns-clause-only c = document_is
