use Rattle.std.proofs.Common.{length, ℕ, ap, arith, ◌∙◌, append_assoc, length-append}
use Rattle.std.proofs.lemmas.Fmt.{decimal_digit, decimal_step}
use Rattle.knx_base.proofs.decimal.+put_decimal.Goals as goal

pub put_octet-requires : goal.put_octet-requires
put_octet-requires t c =
    let one = ap length (decimal_digit c.args.number c.if-number-lt10.true) in record { room = omega arith }

pub returns-then-number-lt10-clause-next : goal.returns-then-number-lt10-clause-next
returns-then-number-lt10-clause-next t c =
    let one = ap length (decimal_digit c.args.number c.if-number-lt10.true) in omega arith

pub returns-then-number-lt10-clause-front : goal.returns-then-number-lt10-clause-front
returns-then-number-lt10-clause-front t c =
    rw (decimal_digit c.args.number c.if-number-lt10.true) c.put_octet.ensures.front

pub put_decimal-after-requires : goal.put_decimal-after-requires
put_decimal-after-requires t c = let step = ap length (decimal_step c.args.number c.if-number-lt10.false
    (omega arith)) in (omega arith, omega (arith, length-append {A = ℕ}))

pub put_octet-requires-2 : goal.put_octet-requires-2
put_octet-requires-2 t c = let step = ap length (decimal_step c.args.number c.if-number-lt10.false (omega arith)) in
    record { room = omega (arith, length-append {A = ℕ}) }

pub returns-clause-next : goal.returns-clause-next
returns-clause-next t c = let step = ap length (decimal_step c.args.number c.if-number-lt10.false (omega arith)) in
    omega (arith, length-append {A = ℕ})

pub returns-clause-front : goal.returns-clause-front
returns-clause-front t c = c.put_octet-2.ensures.front ∙ rw (
  c.put_decimal-after.ensures.front,
  decimal_step
      c.args.number c.if-number-lt10.false (omega arith),
) (simp append_assoc)
