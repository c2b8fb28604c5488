use Rattle.std.proofs.Common.{arith}
use Rattle.hex.proofs.HexLemmas.{decode_of-ok}
use Rattle.frame_file.proofs.telegram.octets_of_digits.Goals as goal

pub returns-in-Ok-clause-short : goal.returns-in-Ok-clause-short
returns-in-Ok-clause-short c =
    let said = decode_of-ok c.args.digits.now c.in-Ok.octets.items c.in-Ok.ensures.ok in
    let twice = said.2 in
    omega (arith, twice, c.if-digits.false)
