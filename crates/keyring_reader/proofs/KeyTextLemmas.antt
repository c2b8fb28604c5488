-- The key that a text stands for.
use Rattle.std.proofs.Common.{◌≡◌, ℕ, true, List, Option, Some, None, refl, sym, ap, ◌∙◌}
use Rattle.std.specs.Option.{option_and_then, is_some}
use Rattle.std.specs.Str.{bytes_eq}
use Rattle.std.proofs.lemmas.Slice.Eq.{bytes_eq-Decides}
use Rattle.aes_modes.specs.Cipher.{IsBlock}
use Rattle.aes_modes.specs.Modes.{cbc_of}
use Rattle.keyring_reader.specs.declared.keys.Wrapping.{Wrapping}
use Rattle.keyring_reader.specs.Keys.{base64_of, stored_block, unwrapped, key_named, IsBlockText, IsWrapping, IsKeyText}
use Rattle.keyring_reader.proofs.BlockLemmas.{found_block, found_passes, found_is_block, always_found}
use Rattle.keyring_reader.proofs.CipherLemmas.{cbc_block, cbc_once}
use Rattle.keyring_reader.proofs.StoredLemmas.{stored_once, stored_only, wrapped_only}

pub text_of_stored : (text block : List ℕ) → stored_block text ≡ Some block → IsBlockText block text
unfolding stored_block
text_of_stored text block is = record {
  is_block = found_is_block (λ b. bytes_eq (base64_of b) text) block is;
  encodes = (bytes_eq-Decides (base64_of block) text).0 (found_passes (λ b. bytes_eq (base64_of b) text) block is);
}

plain_block : (key vector wrapped plain : List ℕ) → unwrapped key vector wrapped ≡ Some plain → IsBlock plain
unfolding unwrapped
plain_block key vector wrapped plain is = found_is_block (λ b. bytes_eq (cbc_of key vector b) wrapped) plain is

pub unwraps_to : (key vector wrapped plain : List ℕ) → IsBlock key → IsBlock vector → IsBlock plain
    → cbc_of key vector plain ≡ wrapped → unwrapped key vector wrapped ≡ Some plain
unfolding unwrapped
unwraps_to key vector wrapped plain is_key is_vector is encrypts =
    found_block (λ b. bytes_eq (cbc_of key vector b) wrapped) plain is
    ((bytes_eq-Decides (cbc_of key vector plain) wrapped).1 encrypts)
    (λ other is_other passes.
    cbc_once key vector other plain is_key is_vector is_other is
    ((bytes_eq-Decides (cbc_of key vector other) wrapped).0 passes ∙ sym encrypts))

unwraps : (key vector wrapped : List ℕ) → IsBlock key → IsBlock vector → IsBlock wrapped
    → is_some (unwrapped key vector wrapped) ≡ true
unfolding unwrapped
unwraps key vector wrapped is_key is_vector is =
    always_found (cbc_of key vector) wrapped
    (record {
      block = λ b is_b. cbc_block key vector b is_key is_vector is_b;
      once = λ a b first second same. cbc_once key vector a b is_key is_vector first second same;
    }) is

-- ---- a text

abbrev of_block : Wrapping → Option (List ℕ) → Option (List ℕ)
of_block under stored = option_and_then (unwrapped under.key under.vector) stored

pub key_found : (under : Wrapping) (key text : List ℕ) → IsWrapping under → IsKeyText under key text
    → key_named under text ≡ Some key
key_found under key text wrapping is =
    let wrapped : List ℕ = cbc_of under.key under.vector key in
    let block : IsBlock wrapped = cbc_block under.key under.vector key wrapping.is_key wrapping.is_vector is.is_block in
    ap (of_block under) (sym (ap stored_block is.wraps) ∙ stored_once wrapped block)
    ∙ unwraps_to under.key under.vector wrapped key wrapping.is_key wrapping.is_vector is.is_block refl

key_stored : (under : Wrapping) (key text : List ℕ) (stored : Option (List ℕ)) → stored_block text ≡ stored
    → of_block under stored ≡ Some key → IsKeyText under key text
key_stored under key text None is found = absurd cc
key_stored under key text (Some wrapped) is found = record {
  is_block = plain_block under.key under.vector wrapped key found;
  wraps = ap base64_of (wrapped_only under.key under.vector wrapped key found) ∙ stored_only text wrapped is;
}

pub text_of_found : (under : Wrapping) (key text : List ℕ) → key_named under text ≡ Some key → IsKeyText under key text
text_of_found under key text found = key_stored under key text (stored_block text) refl found

pub each_has_key : (under : Wrapping) (block text : List ℕ) → IsWrapping under → IsBlockText block text
    → is_some (key_named under text) ≡ true
each_has_key under block text wrapping is =
    ap (λ (stored : Option (List ℕ)). is_some (of_block under stored))
    (sym (ap stored_block is.encodes) ∙ stored_once block is.is_block)
    ∙ unwraps under.key under.vector block wrapping.is_key wrapping.is_vector is.is_block
