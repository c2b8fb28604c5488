use Rattle.std.proofs.Common.{◌+◌, ◌-◌, ◌/◌, arith}
use Rattle.key_tables.proofs.Searching.{one_step, as_steps, upper_left, lower_left, stands, nowhere}
use Rattle.key_tables.proofs.search.search.Goals as goal

pub search-preserved-in-Less : goal.search-preserved-in-Less
search-preserved-in-Less g c =
    let low = c.search.low in
    let high = c.search.high in
    let middle = low + (high - low) / 2 in (
      upper_left _ _ low high middle c.search.invariant.0 (omega arith) (omega (arith, c.search-test.true))
          c.in-Less.ensures.compared,
      one_step _ (high - low) (high - (middle + 1)) _ _ _ c.search.invariant.1 (omega (arith, c.search-test.true))
          (omega (arith, c.search-test.true)) c.in-Less.ensures.step,
    )

pub returns-in-Equal-clause-steps : goal.returns-in-Equal-clause-steps
returns-in-Equal-clause-steps g c =
    let low = c.search.low in
    let high = c.search.high in
    as_steps _ 0 _ _ (one_step _ (high - low) 0 _ _ _ c.search.invariant.1 (omega (arith, c.search-test.true))
    (omega arith) c.in-Equal.ensures.step)

pub search-preserved : goal.search-preserved
search-preserved g c =
    let low = c.search.low in
    let high = c.search.high in
    let middle = low + (high - low) / 2 in (
      lower_left _ _ low high middle c.search.invariant.0 (omega arith) (omega (arith, c.search-test.true))
          c.in-Greater.ensures.compared,
      one_step _ (high - low) (middle - low) _ _ _ c.search.invariant.1 (omega (arith, c.search-test.true))
          (omega (arith, c.search-test.true)) c.in-Greater.ensures.step,
    )

pub returns-clause-place : goal.returns-clause-place
returns-clause-place g c =
    nowhere _ _ c.search.low c.search.high c.search.invariant.0 (omega (arith, c.search-test.false))

pub returns-in-Equal-clause-place : goal.returns-in-Equal-clause-place
returns-in-Equal-clause-place g c =
    stands _ _ c.search.low c.search.high _ c.search.invariant.0
    (omega (arith, c.search-test.true, c.search.invariant.0.within)) c.in-Equal.ensures.compared
