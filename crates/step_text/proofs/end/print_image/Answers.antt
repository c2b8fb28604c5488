use Rattle.std.proofs.Common.{[], ◌∷◌, ◌++◌}
use Rattle.std.specs.Prelude.{codes}
use Rattle.hex.specs.Hex.{encode_lower}
use Rattle.step_text.proofs.Pieces.{then, no_more}
use Rattle.step_text.proofs.end.print_image.Goals as goal

pub returns-in_err-print_text-clause-text : goal.returns-in_err-print_text-clause-text
returns-in_err-print_text-clause-text g c =
    no_more _ _ c.from_residual.result (codes "image ") (encode_lower c.args.octets.now ++ 10 ∷ [])
    c.from_residual.ensures.0 c.in_err-print_text.ensures.text

pub returns-in_err-print_octets-clause-text : goal.returns-in_err-print_octets-clause-text
returns-in_err-print_octets-clause-text g c =
    let result = c.from_residual-in_err-print_octets.result in
    then _ _ _ result (codes "image ") (encode_lower c.args.octets.now ++ 10 ∷ []) c.in_ok-print_text.ensures.text
    (no_more _ _ result (encode_lower c.args.octets.now) (10 ∷ []) c.from_residual-in_err-print_octets.ensures.0
    c.in_err-print_octets.ensures.text)

pub returns-clause-text : goal.returns-clause-text
returns-clause-text g c =
    then _ _ _ c.print_text-2.result (codes "image ") (encode_lower c.args.octets.now ++ 10 ∷ [])
    c.in_ok-print_text.ensures.text
    (then _ _ _ c.print_text-2.result (encode_lower c.args.octets.now) (10 ∷ []) c.in_ok-print_octets.ensures.text
    c.print_text-2.ensures.text)
