use Rattle.std.proofs.Common.{List, ℕ, ◌∙◌, [], ◌++◌, ap, take, flat_map}
use Rattle.sha2.specs.Sha256.{sha256}
use Rattle.keyring_reader.specs.Keys.{short_hash}
use Rattle.keyring_reader.specs.Signed.{signed_tag, sized}
use Rattle.keyring_reader.proofs.signature.signature_of.Goals as goal

pub returns : goal.returns
unfolding short_hash
returns c =
    let tags = c.in_ok-sign_tags.ensures [] c.new-hasher.ensures in
    c.block_from.ensures.copy
    ∙ ap (take 16) (c.finalize.ensures _ (c.sign_text.ensures _ tags))
    ∙ ap (λ (text : List ℕ). take 16 (sha256 (flat_map signed_tag c.args.tags.now ++ sized text))) c.base64_of.ensures
