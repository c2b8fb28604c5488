use Rattle.std.proofs.Common.{sym, ap, length, ◌∙◌, subst, Some, ◌≡◌}
use Rattle.aes_modes.specs.Cipher.{IsBlock}
use Rattle.keyring_reader.proofs.StoredLemmas.{unwrapped_is}
use Rattle.keyring_reader.proofs.keys.Wrapping.unwrap.Goals as goal

pub returns : goal.returns
returns c =
    let is : IsBlock c.cbc_decrypt.new.octets = subst IsBlock c.block_from.ensures.copy c.block_from.ensures.block in
    let length_is : length c.args.wrapped.now ≡ 16 = sym c.cbc_decrypt.auto.octets ∙ is.length in
    unwrapped_is c.args.self.now.key c.args.self.now.vector c.cbc_decrypt.new.octets c.args.wrapped.now is
    c.cbc_decrypt.ensures.encrypts_back c.cbc_decrypt.ensures.only length_is
    ∙ ap Some (sym c.block_from.ensures.copy)
