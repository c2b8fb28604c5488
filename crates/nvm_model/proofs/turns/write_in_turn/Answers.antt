use Rattle.nvm_model.specs.Piece.{write_of, writes_of}
use Rattle.nvm_model.proofs.TurnLemmas.{makes_more, makes_no_more, strike_divided}
use Rattle.nvm_model.proofs.turns.write_in_turn.Goals as goal

pub loop-piece-preserved : goal.loop-piece-preserved
loop-piece-preserved g c =
    makes_more (write_of c.args.first) c.args.rest.now c.loop-piece.piece-index _ c.loop-piece-test.true
    c.loop-piece.invariant c.in_default.ensures.makes

pub returns-in-Err-clause-makes : goal.returns-in-Err-clause-makes
returns-in-Err-clause-makes g c =
    makes_no_more (write_of c.args.first) c.args.rest.now c.loop-piece.piece-index _ c.loop-piece-test.true
    c.loop-piece.invariant c.in-Err.ensures.makes

pub returns-in_err-write-clause-divides : goal.returns-in_err-write-clause-divides
returns-in_err-write-clause-divides g c = strike_divided (writes_of c.args.first c.args.rest.now)

pub returns-in-Err-clause-divides : goal.returns-in-Err-clause-divides
returns-in-Err-clause-divides g c = strike_divided (writes_of c.args.first c.args.rest.now)

pub returns-clause-divides : goal.returns-clause-divides
returns-clause-divides g c = strike_divided (writes_of c.args.first c.args.rest.now)
