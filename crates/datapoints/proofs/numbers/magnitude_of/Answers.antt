use Rattle.std.proofs.Common.{◌≤◌, ◌/◌, ◌%◌, arith}
use Rattle.datapoints.proofs.Floats.{shifted_bound}
use Rattle.datapoints.proofs.numbers.magnitude_of.Goals as goal
use Rattle.datapoints.proofs.numbers.magnitude_of.Goals.{then-is_negative, else-is_negative}

pub returns-clause-bound : goal.returns-clause-bound
returns-clause-bound c =
    let few : c.if-is_negative.steps ≤ 2048 =
    elim c.if-is_negative.branch [ then-is_negative w ↦ omega arith | else-is_negative w ↦ omega arith ]
    in
    shifted_bound c.if-is_negative.steps (c.args.number / 2048 % 16) few (omega arith)
