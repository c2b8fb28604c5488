use Rattle.keyring_reader.proofs.FirstLemmas.{told_first, first_told, none_told, all_said}
use Rattle.keyring_reader.proofs.law.first_refusal_is_told.Goals as goal

pub returns : goal.returns
returns c = record {
  told = told_first;
  first = first_told;
  none = none_told;
  said = all_said;
}
