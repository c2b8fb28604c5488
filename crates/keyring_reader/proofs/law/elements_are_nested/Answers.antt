use Rattle.keyring_reader.proofs.NestingLemmas.{nested}
use Rattle.keyring_reader.proofs.law.elements_are_nested.Goals as goal

pub returns : goal.returns
returns c = nested
