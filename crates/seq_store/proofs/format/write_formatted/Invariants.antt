-- The first bank's numbers and the zeros so far are written.
use Rattle.std.proofs.Common.{None}
use Rattle.nvm_model.specs.Nvm.{Makes}
use Rattle.seq_store.proofs.Pieces.{up_to_zeros}
use Rattle.seq_store.proofs.format.write_formatted.Given as goal

abbrev pub invariant-loop-k : goal.invariant-loop-k
invariant-loop-k g l =
    Makes (up_to_zeros l.fn.reserved l.marks l.k) None
    (g.M.Nvm.state l.fn.memory) (g.M.Nvm.state l.memory) (g.M.Nvm.images l.fn.memory) (g.M.Nvm.images l.memory)
