use Rattle.std.proofs.Common.{ap, ◌∙◌, arith}
use Rattle.knx_base.specs.Number.{number_at, octets_of}
use Rattle.knx_base.proofs.NumberLemmas.{octets_of-number_at}
use Rattle.knx_base.proofs.number.number_in.Goals as goal

pub returns-clause-value : goal.returns-clause-value
unfolding number_at
returns-clause-value c = omega (arith, c.from_be_bytes.ensures)

pub returns-clause-back : goal.returns-clause-back
returns-clause-back c =
    ap octets_of (returns-clause-value c) ∙ octets_of-number_at c.args.octets.now c.requires.six
    (omega (arith, c.type_inv.octets 0)) (omega (arith, c.type_inv.octets 1)) (omega (arith, c.type_inv.octets 2))
    (omega (arith, c.type_inv.octets 3)) (omega (arith, c.type_inv.octets 4)) (omega (arith, c.type_inv.octets 5))
