use Rattle.std.proofs.Common.{[], refl, ◌∙◌}
use Rattle.judge_rules.proofs.Digits.{none_yet, both_parts, one_piece, in_part}
use Rattle.judge_rules.proofs.text.print_octets.Goals as goal

pub loop-rest-init : goal.loop-rest-init
loop-rest-init g c = ([], refl, none_yet _, refl)

pub returns-in_err-print_piece-clause-text : goal.returns-in_err-print_piece-clause-text
returns-in_err-print_piece-clause-text g c =
    let before = c.loop-rest.invariant in
    in_part _ _ _ c.from_residual.result c.args.octets.now c.loop-rest.rest.now before.0 _ _ before.1
    (both_parts _ _ c.split_at.ensures.front c.split_at.ensures.back) before.2 c.from_residual.ensures.0
    c.in_err-print_piece.ensures.text

pub loop-rest-preserved : goal.loop-rest-preserved
loop-rest-preserved g c =
    let before = c.loop-rest.invariant in
    let piece = one_piece _ _ _ c.args.octets.now c.loop-rest.rest.now before.0 _ _ before.1
    (both_parts _ _ c.split_at.ensures.front c.split_at.ensures.back) before.2 c.in_ok-print_piece.ensures.text in
    (piece.0, piece.1, piece.2, c.in_ok-print_piece.ensures.cause.kept ∙ before.3)
