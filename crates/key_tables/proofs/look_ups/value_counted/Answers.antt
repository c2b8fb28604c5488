use Rattle.std.proofs.Common.{sym}
use Rattle.key_tables.proofs.Looking.{says_at}
use Rattle.key_tables.proofs.look_ups.value_counted.Goals as goal

pub returns-clause-value : goal.returns-clause-value
returns-clause-value g c =
    sym (says_at c.args.index.now c.args.wanted.now c.in_ok-place.place _ c.in_ok-place.ensures.place
    c.value_at.ensures)
