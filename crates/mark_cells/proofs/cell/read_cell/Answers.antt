use Rattle.std.proofs.Common.{sym, ◌∙◌}
use Rattle.mark_cells.proofs.Copies.{reading_same, copied_from}
use Rattle.mark_cells.proofs.cell.read_cell.Goals as goal

pub returns-in-Some-clause-value : goal.returns-in-Some-clause-value
returns-in-Some-clause-value g c =
    sym (c.in-Some.ensures.value ∙ reading_same c.read.new.out _ c.args.at
    (copied_from c.read.new.out _ c.args.at c.requires.inside c.in_ok-read.ensures.octets))
