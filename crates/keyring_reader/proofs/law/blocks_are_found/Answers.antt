use Rattle.keyring_reader.proofs.StoredLemmas.{stored_once, wrapped_only}
use Rattle.keyring_reader.proofs.KeyTextLemmas.{text_of_stored, key_found, text_of_found, each_has_key}
use Rattle.keyring_reader.proofs.WrappingLemmas.{is_wrapping}
use Rattle.keyring_reader.proofs.law.blocks_are_found.Goals as goal

pub returns : goal.returns
returns c = record {
  encoded = stored_once;
  stored = text_of_stored;
  wrapped = wrapped_only;
  found = key_found;
  only = text_of_found;
  each = each_has_key;
  wraps = is_wrapping;
}
