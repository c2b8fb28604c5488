use Rattle.std.proofs.Common.{Err, sym, ap, ◌∙◌}
use Rattle.std.proofs.lemmas.Result.{err_from_is_err_and}
use Rattle.seq_store.proofs.Starts.{unformatted_here}
use Rattle.seq_store.proofs.store.start.read_values.Goals as goal

pub returns-in_err-mark-clause-unformatted : goal.returns-in_err-mark-clause-unformatted
returns-in_err-mark-clause-unformatted g c = λ place is.
    let p = err_from_is_err_and c.from_residual-in_err-mark.result c.from_residual-in_err-mark.ensures.1 in
    unformatted_here _ _ _ _ place _ c.loop-lane-test.true c.loop-lane.invariant.reserved c.loop-lane.invariant.each
    (rw c.loop-lane.invariant.reads.octets at (c.in_err-mark.ensures.unformatted place
    (ap Err (sym p.2) ∙ sym p.1 ∙ is)))
