use Rattle.std.proofs.Common.{◌≡◌, ℕ, Ok, sym, ap, refl, subst, replicate, ◌∙◌, arith}
use Rattle.aes_modes.specs.Cipher.{AreOctets}
use Rattle.base64.specs.Engines.{standard}
use Rattle.base64.specs.GeneralPurpose.{decode_slice_of}
use Rattle.keyring_reader.specs.Keys.{stored_block}
use Rattle.keyring_reader.proofs.StoredLemmas.{stored_found, stored_not}
use Rattle.keyring_reader.proofs.keys.stored_block.Goals as goal

pub returns-in_default : goal.returns-in_default
returns-in_default c =
    sym (ap stored_block (sym c.as_bytes.ensures.value) ∙ stored_not c.as_bytes.result.now c.decode_slice.result
    c.decode_slice.ensures.value (c.in_default.not-Ok 16))

pub returns-then-length-eq16 : goal.returns-then-length-eq16
returns-then-length-eq16 c =
    let octets : AreOctets c.as_bytes.result.now =
    subst AreOctets (sym c.as_bytes.ensures.value) (λ i. omega (arith, c.type_inv.text i)) in
    let fills : decode_slice_of standard c.as_bytes.result.now 16 ≡ Ok 16 =
    sym c.decode_slice.ensures.value ∙ c.in-Ok.is ∙ ap (λ (n : ℕ). Ok n) c.if-length-eq16.true in
    sym (ap stored_block (sym c.as_bytes.ensures.value)
    ∙ stored_found c.as_bytes.result.now c.decode_slice.new.output (replicate {A = ℕ} 16 0) fills octets
    c.in-Ok.ensures.bytes c.in-Ok.ensures.written refl)

pub returns-else-length-eq16 : goal.returns-else-length-eq16
returns-else-length-eq16 c =
    sym (ap stored_block (sym c.as_bytes.ensures.value) ∙ stored_not c.as_bytes.result.now c.decode_slice.result
    c.decode_slice.ensures.value (λ filled. c.if-length-eq16.false (cc (filled, c.in-Ok.is))))
