use Rattle.std.proofs.Common.{◌≡◌, ◌^◌, ◌<◌, ◌≤◌, ℕ, List, length, take, sym, ap, ◌∙◌, arith}
use Rattle.std.specs.Fmt.{decimal}
use Rattle.std.proofs.lemmas.Fmt.{length-decimal-le}
use Rattle.std.proofs.lemmas.List.{length-take, length-take-le}
use Rattle.datapoints.proofs.value_text.ValueText.decimal.Goals as goal

digits : (number : ℕ) → number < 2 ^ 33 → length (decimal number) ≤ 10
digits number below = length-decimal-le 10 number (omega arith) (omega arith) (omega arith)

so_far : (text : List ℕ) (store : List ℕ) (len : ℕ) → take len store ≡ text → len ≤ length store → length text ≡ len
so_far text store len is fits = ap length (sym is) ∙ length-take-le len store fits

pub put_decimal-self-inside-requires : goal.put_decimal-self-inside-requires
put_decimal-self-inside-requires c = record {
  room = omega (
    arith,
    digits c.args.number (omega arith),
    so_far _ c.self.inside.store c.self.inside.len c.self.view_is
        (omega arith),
  );
}

pub returns-clause-short : goal.returns-clause-short
returns-clause-short c = omega (
  arith,
  digits c.args.number (omega arith),
  so_far _ c.self.inside.store c.self.inside.len c.self.view_is (omega arith),
  length-take c.put_decimal-self-inside.result c.put_decimal-self-inside.new.out,
)
