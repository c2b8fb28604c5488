use Rattle.std.proofs.Common.{◌%◌, arith}
use Rattle.std.proofs.lemmas.Grind.{and_numeral}
use Rattle.plain_apdu.proofs.tpci.Tpci.read.Goals as goal

pub returns-in-1-default-clause-octet : goal.returns-in-1-default-clause-octet
returns-in-1-default-clause-octet c = (
  c.args.octet % 4,
  record {
    number_bound = grind (arith, and_numeral);
    lower_bound = omega arith;
    octet_is = grind (arith, and_numeral);
  },
)
