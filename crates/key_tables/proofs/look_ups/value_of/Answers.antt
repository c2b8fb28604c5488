use Rattle.std.proofs.Common.{sym}
use Rattle.key_tables.proofs.Looking.{says_at}
use Rattle.key_tables.proofs.look_ups.value_of.Goals as goal

pub returns : goal.returns
returns c =
    sym (says_at c.args.index.now c.args.wanted.now c.in_ok-place.place _ c.in_ok-place.ensures c.value_at.ensures)
