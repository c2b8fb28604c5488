use Rattle.std.proofs.Common.{◌-◌, ◌++◌, length, take, ap, ◌∙◌}
use Rattle.std.proofs.lemmas.List.{take_rest}
use Rattle.knx_ccm.specs.Sealing.{ciphered, line_of}
use Rattle.knx_ccm.proofs.opening.decrypt.Goals as goal

pub returns : goal.returns
unfolding line_of
returns c =
    let body = c.args.body.now in
    let n = length body - 4 in
    c.cipher.ensures ∙ ap (ciphered c.args.key.now c.args.head.now)
    (c.join.ensures ∙ (λ i. take_rest body n i ++ take n body))
