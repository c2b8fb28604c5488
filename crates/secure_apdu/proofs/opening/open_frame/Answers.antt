use Rattle.std.proofs.Common.{arith}
use Rattle.secure_apdu.proofs.SecureLemmas.{open_body}
use Rattle.secure_apdu.proofs.opening.open_frame.Goals as goal

pub open-requires-clause-algorithm : goal.open-requires-clause-algorithm
open-requires-clause-algorithm c = (open_body _ _ _ _ _ c.requires.faultless c.requires.parts c.args.frame.now.fits).0

pub open-requires-clause-code : goal.open-requires-clause-code
open-requires-clause-code c = (open_body _ _ _ _ _ c.requires.faultless c.requires.parts c.args.frame.now.fits).1

pub open-requires-clause-short : goal.open-requires-clause-short
open-requires-clause-short c = (open_body _ _ _ _ _ c.requires.faultless c.requires.parts c.args.frame.now.fits).2

pub open-requires-clause-room : goal.open-requires-clause-room
open-requires-clause-room c =
    omega (arith, c.out.told, (open_body _ _ _ _ _ c.requires.faultless c.requires.parts c.args.frame.now.fits).2)

pub invariant_of-out-2 : goal.invariant_of-out-2
invariant_of-out-2 c =
    omega (
      arith,
      c.in_ok-out-inside.ensures.length,
      (open_body _ _ _ _ _ c.requires.faultless c.requires.parts
          c.args.frame.now.fits).2,
    )
