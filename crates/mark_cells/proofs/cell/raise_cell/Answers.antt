use Rattle.std.proofs.Common.{arith}
use Rattle.std.proofs.lemmas.Result.{err_from_is_err_and}
use Rattle.mark_cells.proofs.Cells.{makes_raise, makes_no_raise, makes_moments, makes_now, makes_raised, others_read, fits_octets}
use Rattle.mark_cells.proofs.cell.raise_cell.Goals as goal

pub returns-in_err-read-clause-makes : goal.returns-in_err-read-clause-makes
returns-in_err-read-clause-makes g c =
    let p = err_from_is_err_and c.from_residual.result c.from_residual.ensures.1 in
    rw (p.1, p.2) (makes_no_raise c.args.at c.args.new c.in_err-read.ensures.reads)

pub returns-clause-makes : goal.returns-clause-makes
returns-clause-makes g c =
    makes_raise c.read.new.out c.to_bytes.result c.args.at c.other_copy-other.result c.args.new c.requires.inside
    c.in_ok-read.ensures.octets
    c.other_copy-other.ensures.place (omega (arith, c.other_copy-other.ensures.copies)) c.to_bytes.ensures.octets
    c.in_ok-read.ensures.reads c.write_gated.ensures.makes

pub returns-clause-any_moment : goal.returns-clause-any_moment
returns-clause-any_moment g c =
    makes_moments c.args.at c.args.new c.requires.inside c.requires.below
    (fits_octets c.args.new c.to_bytes.result c.to_bytes.ensures.octets c.to_bytes.ensures.back)
    (returns-clause-makes g c)

pub returns-clause-raised : goal.returns-clause-raised
returns-clause-raised g c =
    makes_raised c.write_gated.result c.args.at c.args.new c.requires.inside c.requires.below
    (fits_octets c.args.new c.to_bytes.result c.to_bytes.ensures.octets c.to_bytes.ensures.back)
    (returns-clause-makes g c)

pub returns-clause-now : goal.returns-clause-now
returns-clause-now g c =
    makes_now c.args.at c.args.new c.requires.inside c.requires.below
    (fits_octets c.args.new c.to_bytes.result c.to_bytes.ensures.octets c.to_bytes.ensures.back)
    (returns-clause-makes g c)

pub returns-clause-others : goal.returns-clause-others
returns-clause-others g c = others_read c.args.at (returns-clause-now g c).outside
