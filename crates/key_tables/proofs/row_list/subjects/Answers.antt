use Rattle.key_tables.specs.Index.{subject_of}
use Rattle.key_tables.proofs.KeySets.{next_held}
use Rattle.key_tables.proofs.row_list.subjects.Goals as goal

pub rows-preserved : goal.rows-preserved
rows-preserved c =
    next_held subject_of c.args.rows.now c.rows.row-index _ _ _ _ c.rows-test.true c.subject.ensures c.rows.invariant
    c.in_ok-insert.ensures.gains
