use Rattle.seq_store.proofs.Bound.{draws_bound}
use Rattle.seq_store.proofs.Living.{never_twice}
use Rattle.seq_store.proofs.law.numbers_are_fresh.Goals as goal

pub returns-clause-never_twice : goal.returns-clause-never_twice
returns-clause-never_twice c = never_twice

pub returns-clause-bound : goal.returns-clause-bound
returns-clause-bound c = draws_bound
