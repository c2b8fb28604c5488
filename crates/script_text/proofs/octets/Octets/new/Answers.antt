use Rattle.std.proofs.Common.{◌++◌, length, replicate, drop, sym, subst}
use Rattle.script_text.specs.Padded.{IsPadded, is_padded}
use Rattle.script_text.proofs.octets.Octets.new.Goals as goal

pub invariant_of-result : goal.invariant_of-result
invariant_of-result g c =
    subst (λ copied. IsPadded g.row.ROOM (length c.args.bytes.now)
    (copied ++ drop (length c.args.bytes.now) (replicate g.row.ROOM 0)))
    (sym c.copy_from_slice.ensures.after) (is_padded g.row.ROOM c.args.bytes.now c.requires.fits)
