use Rattle.std.proofs.Common.{length, sym, ◌∙◌, eqb-true}
use Rattle.cemi_frames.proofs.Info.{misfit-no_rows}
use Rattle.cemi_frames.proofs.reading.row_misfit.Goals as goal

pub returns : goal.returns
returns c = sym (misfit-no_rows (length c.loop-rest.rest.now) _ c.loop-rest.rest.now
    (eqb-true _ _ (sym c.loop-rest-test.ensures))) ∙ c.loop-rest.invariant.same
