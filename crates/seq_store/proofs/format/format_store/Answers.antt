use Rattle.nvm_model.proofs.Runs.{makes_unarmed}
use Rattle.seq_store.proofs.Pieces.{formats, formats_restoring}
use Rattle.seq_store.proofs.format.format_store.Goals as goal

pub returns-clause-formatted : goal.returns-clause-formatted
returns-clause-formatted g c =
    formats c.write_formatted.result c.args.reserved c.args.marks.now c.requires.size c.write_formatted.ensures.makes

pub returns-clause-restores : goal.returns-clause-restores
returns-clause-restores g c =
    formats_restoring c.write_formatted.result c.args.reserved c.args.marks.now c.requires.size
    c.write_formatted.ensures.makes
    c.write_formatted.ensures.reserved_fits c.write_formatted.ensures.marks_fit

pub returns-clause-unarmed : goal.returns-clause-unarmed
returns-clause-unarmed g c = makes_unarmed c.write_formatted.result c.write_formatted.ensures.makes
