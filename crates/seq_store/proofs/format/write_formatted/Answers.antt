use Rattle.std.proofs.Common.{◌+◌, ◌*◌, length, refl, arith}
use Rattle.nvm_model.proofs.Runs.{makes_stops}
use Rattle.seq_store.proofs.Pieces.{before_makes, zeros_begin, zeros_more, zeros_stop, zeros_end, numbers_stop}
use Rattle.seq_store.proofs.format.write_formatted.Goals as goal

pub returns-in-Err-clause-makes : goal.returns-in-Err-clause-makes
returns-in-Err-clause-makes g c = numbers_stop c.args.reserved c.args.marks.now c.in-Err.ensures.makes

pub returns-in-Err-write-clause-makes : goal.returns-in-Err-write-clause-makes
returns-in-Err-write-clause-makes g c =
    zeros_stop c.args.reserved c.args.marks.now 0
    (zeros_begin c.args.reserved c.args.marks.now
    (before_makes c.args.reserved c.args.marks.now (15 + 6 * length c.args.marks.now) refl c.in_default.ensures.makes
    c.in-Err-write.ensures.makes))

pub loop-k-init : goal.loop-k-init
loop-k-init g c =
    zeros_begin c.args.reserved c.args.marks.now
    (before_makes c.args.reserved c.args.marks.now (15 + 6 * length c.args.marks.now) refl c.in_default.ensures.makes
    c.in_default-write.ensures.makes)

pub returns-in-Err-write-2-clause-makes : goal.returns-in-Err-write-2-clause-makes
returns-in-Err-write-2-clause-makes g c =
    zeros_stop c.args.reserved c.args.marks.now (c.loop-k.k + 1)
    (zeros_more c.args.reserved c.args.marks.now c.loop-k.k (286 + 6 * length c.args.marks.now + 6 * c.loop-k.k)
    c.loop-k-test.true refl
    c.loop-k.invariant c.in-Err-write-2.ensures.makes)

pub loop-k-preserved : goal.loop-k-preserved
loop-k-preserved g c =
    zeros_more c.args.reserved c.args.marks.now c.loop-k.k (286 + 6 * length c.args.marks.now + 6 * c.loop-k.k)
    c.loop-k-test.true refl
    c.loop-k.invariant c.in_default-write-2.ensures.makes

pub returns-clause-makes : goal.returns-clause-makes
returns-clause-makes g c =
    zeros_end c.args.reserved c.args.marks.now c.loop-k.k (omega (arith, c.loop-k-test.false)) c.loop-k.invariant
