use Rattle.std.proofs.Common.{List, ℕ, Bool, cond, ap, ◌∙◌}
use Rattle.aes_modes.specs.Modes.{with_stream}
use Rattle.knx_ccm.specs.Sealing.{ciphered, counter_0}
use Rattle.knx_ccm.proofs.code.cipher.Goals as goal

pub returns-then-has_confidentiality : goal.returns-then-has_confidentiality
unfolding ciphered
returns-then-has_confidentiality c =
    let key = c.args.key.now in
    let octets = c.args.octets.now in
    c.ctr_apply.ensures.stream
    ∙ ap (λ (counter : List ℕ). with_stream key counter octets) c.first_counter.ensures
    ∙ ap (λ (b : Bool). cond b (with_stream key (counter_0 c.args.head.now) octets) octets)
    (c.if-has_confidentiality.ensures)

pub returns-else-has_confidentiality : goal.returns-else-has_confidentiality
unfolding ciphered
returns-else-has_confidentiality c =
    let octets = c.args.octets.now in
    ap (λ (b : Bool). cond b (with_stream c.args.key.now (counter_0 c.args.head.now) octets) octets)
    (c.if-has_confidentiality.ensures)
