use Rattle.std.proofs.Common.{None, take}
use Rattle.nvm_model.specs.Nvm.{Makes}
use Rattle.nvm_model.specs.Piece.{writes_of}
use Rattle.nvm_model.proofs.turns.write_in_turn.Given as goal

-- the pieces so far are written whole
abbrev pub invariant-loop-piece : goal.invariant-loop-piece
invariant-loop-piece g l =
    Makes (writes_of l.fn.first (take l.piece-index l.rest)) None (g.M.Nvm.state l.fn.memory) (g.M.Nvm.state l.memory)
    (g.M.Nvm.images l.fn.memory) (g.M.Nvm.images l.memory)
