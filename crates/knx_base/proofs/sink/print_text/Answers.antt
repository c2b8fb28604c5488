use Rattle.std.proofs.Common.{◌∙◌}
use Rattle.knx_base.proofs.Causes.{cause_kept}
use Rattle.knx_base.proofs.Printing.{one_piece}
use Rattle.knx_base.proofs.sink.print_text.Goals as goal

pub loop-rest-preserved : goal.loop-rest-preserved
loop-rest-preserved g c =
    let before = c.loop-rest.invariant in
    let piece = one_piece _ _ _ _ c.loop-rest.rest.now before.0 c.in_ok-taken.taken before.1 before.2
    c.in_ok-taken.ensures.taken.2 in
    (piece.0, piece.1, piece.2, c.in_ok-taken.ensures.cause.kept ∙ before.3)

pub returns-clause-cause : goal.returns-clause-cause
returns-clause-cause g c = cause_kept c.loop-rest.invariant.3
