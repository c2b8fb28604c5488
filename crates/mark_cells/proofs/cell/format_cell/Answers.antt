use Rattle.std.proofs.Common.{◌∙◌}
use Rattle.nvm_model.proofs.Runs.{makes_unarmed}
use Rattle.mark_cells.proofs.Cells.{makes_format, format_leaves, format_reads, format_within, others_read, fits_octets}
use Rattle.mark_cells.proofs.cell.format_cell.Goals as goal

pub returns-clause-makes : goal.returns-clause-makes
returns-clause-makes g c =
    makes_format c.args.at c.args.value c.copy_from_slice.new.self
    (c.copy_from_slice.ensures.after ∙ c.to_bytes.ensures.octets) c.write.ensures.makes

pub returns-clause-formatted : goal.returns-clause-formatted
returns-clause-formatted g c = format_leaves c.write.result c.args.at c.args.value (returns-clause-makes g c)

pub returns-clause-reads : goal.returns-clause-reads
returns-clause-reads g c =
    format_reads c.write.result c.args.at c.args.value c.requires.inside
    (fits_octets c.args.value c.to_bytes.result c.to_bytes.ensures.octets c.to_bytes.ensures.back)
    (returns-clause-makes g c)

pub returns-clause-unarmed : goal.returns-clause-unarmed
returns-clause-unarmed g c = makes_unarmed c.write.result (returns-clause-makes g c)

pub returns-clause-others : goal.returns-clause-others
returns-clause-others g c =
    others_read c.args.at (format_within c.args.at c.args.value c.requires.inside (returns-clause-makes g c))
