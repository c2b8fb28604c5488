use Rattle.std.proofs.Common.{rules}
use Rattle.key_tables.proofs.Indexing.{compared_at}
use Rattle.key_tables.proofs.row_index.RowIndex.compare_at.Goals as goal

pub returns-clause-compared : goal.returns-clause-compared
returns-clause-compared g c =
    compared_at c.args.self.now c.args.place c.args.wanted.now c.index.result.now c.cmp.result (search rules)
    (search rules) (search rules)
