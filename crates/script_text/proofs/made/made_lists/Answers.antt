use Rattle.std.proofs.Common.{◌≡◌}
use Rattle.script_text.proofs.Making.{rows_stand}
use Rattle.script_text.proofs.made.made_lists.Goals as goal

pub add_rows-requires-clause-stand : goal.add_rows-requires-clause-stand
add_rows-requires-clause-stand c =
    rows_stand c.new-lists.result c.add.new.self c.made_rows.result c.new-lists.ensures c.in_ok-add.ensures.added.0
    c.made_rows.ensures
