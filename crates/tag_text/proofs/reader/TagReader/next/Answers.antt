use Rattle.tag_text.specs.Document.{left_of}
use Rattle.tag_text.specs.Scan.{state_of}
use Rattle.tag_text.proofs.NameLemmas.{given_once}
use Rattle.tag_text.proofs.reader.TagReader.next.Goals as goal

pub returns-in-Ok-clause-names : goal.returns-in-Ok-clause-names
returns-in-Ok-clause-names c =
    given_once (state_of c.self.inside.scan) (left_of (state_of c.next.new.self)) c.in-Ok.given c.in-Ok.ensures.left
