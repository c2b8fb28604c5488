use Rattle.std.proofs.Common.{◌∙◌, arith, append_assoc, length-append}
use Rattle.std.proofs.lemmas.Fmt.{length-decimal-le}
use Rattle.knx_base.specs.Address.{parts_text}
use Rattle.knx_base.proofs.Places.{later_rest}
use Rattle.knx_base.proofs.address.write_parts.Goals as goal

pub put_decimal-after-requires : goal.put_decimal-after-requires
put_decimal-after-requires c = let first = length-decimal-le 2 c.args.first (omega arith) c.requires.first
    (omega arith) in record { room = omega arith }

pub put_octet-after-requires : goal.put_octet-after-requires
put_octet-after-requires c = let first = length-decimal-le 2 c.args.first (omega arith) c.requires.first
    (omega arith) in record { room = omega arith }

pub put_decimal-after-requires-2 : goal.put_decimal-after-requires-2
put_decimal-after-requires-2 c =
    let first = length-decimal-le 2 c.args.first (omega arith) c.requires.first (omega arith) in
    let second = length-decimal-le 2 c.args.second (omega arith) c.requires.second (omega arith) in
    record { room = omega arith }

pub put_octet-after-requires-2 : goal.put_octet-after-requires-2
put_octet-after-requires-2 c =
    let first = length-decimal-le 2 c.args.first (omega arith) c.requires.first (omega arith) in
    let second = length-decimal-le 2 c.args.second (omega arith) c.requires.second (omega arith) in
    record { room = omega arith }

pub put_decimal-requires : goal.put_decimal-requires
put_decimal-requires c =
    let first = length-decimal-le 2 c.args.first (omega arith) c.requires.first (omega arith) in
    let second = length-decimal-le 2 c.args.second (omega arith) c.requires.second (omega arith) in
    let third = length-decimal-le 3 c.args.third (omega arith) c.requires.third (omega arith) in
    record { room = omega arith }

pub returns-clause-length : goal.returns-clause-length
unfolding parts_text
returns-clause-length c = simp (length-append) (omega arith)

pub returns-clause-text : goal.returns-clause-text
unfolding parts_text
returns-clause-text c = rw (
  c.put_decimal.ensures.front,
  c.put_octet-after-2.ensures.front,
  c.put_decimal-after-2.ensures.front,
  c.put_octet-after.ensures.front,
  c.put_decimal-after.ensures.front,
)
    (simp append_assoc)

pub returns-clause-rest : goal.returns-clause-rest
returns-clause-rest c =
    c.put_decimal.ensures.rest
    ∙ later_rest c.put_octet-after-2.result c.put_decimal.result c.put_decimal-after-2.new.out
    c.put_octet-after-2.new.out (omega arith) c.put_octet-after-2.ensures.rest
    ∙ later_rest c.put_decimal-after-2.result c.put_decimal.result c.put_octet-after.new.out
    c.put_decimal-after-2.new.out (omega arith) c.put_decimal-after-2.ensures.rest
    ∙ later_rest c.put_octet-after.result c.put_decimal.result c.put_decimal-after.new.out c.put_octet-after.new.out
    (omega arith) c.put_octet-after.ensures.rest
    ∙ later_rest c.put_decimal-after.result c.put_decimal.result c.args.out.now c.put_decimal-after.new.out
    (omega arith) c.put_decimal-after.ensures.rest
