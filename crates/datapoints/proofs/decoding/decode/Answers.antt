use Rattle.std.proofs.Common.{arith}
use Rattle.datapoints.specs.Apdus.{value_in}
use Rattle.datapoints.proofs.OneText.{one_text}
use Rattle.datapoints.proofs.SaidTexts.{says_value, text_is, text_is_none}
use Rattle.datapoints.proofs.decoding.decode.Goals as goal

pub returns-then-found-wanted-clause-one_text : goal.returns-then-found-wanted-clause-one_text
returns-then-found-wanted-clause-one_text c = one_text c.args.dpt (value_in c.args.dpt c.args.apdu.now)

pub returns-then-write_value-clause-one_text : goal.returns-then-write_value-clause-one_text
returns-then-write_value-clause-one_text c = one_text c.args.dpt (value_in c.args.dpt c.args.apdu.now)

pub returns-clause-one_text : goal.returns-clause-one_text
returns-clause-one_text c = one_text c.args.dpt (value_in c.args.dpt c.args.apdu.now)

pub returns-then-write_value-clause-exact : goal.returns-then-write_value-clause-exact
returns-then-write_value-clause-exact c =
    text_is c.args.dpt c.args.apdu.now c.write_value.new.out (omega arith) (λ i. omega (arith, c.type_inv.apdu i))
    c.if-write_value.ensures

pub returns-then-write_value-clause-law : goal.returns-then-write_value-clause-law
returns-then-write_value-clause-law c size =
    says_value c.args.dpt c.args.apdu.now size (λ i. omega (arith, c.type_inv.apdu i))

pub returns-clause-exact : goal.returns-clause-exact
returns-clause-exact c =
    text_is_none c.args.dpt c.args.apdu.now (omega arith) (λ i. omega (arith, c.type_inv.apdu i))
    c.if-write_value.ensures

pub returns-clause-law : goal.returns-clause-law
returns-clause-law c size = says_value c.args.dpt c.args.apdu.now size (λ i. omega (arith, c.type_inv.apdu i))
