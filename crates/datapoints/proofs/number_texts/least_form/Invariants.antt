use Rattle.std.proofs.Common.{ℕ, ◌≤◌}
use Rattle.datapoints.specs.Values.{exponent_of}
use Rattle.datapoints.specs.Parsing.{IsForm}
use Rattle.datapoints.proofs.number_texts.least_form.Given as goal

abbrev pub invariant-loop-exponent : goal.invariant-loop-exponent
invariant-loop-exponent l = (n : ℕ) → IsForm n l.negative l.magnitude → l.exponent ≤ exponent_of n
