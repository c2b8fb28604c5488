-- the generation and the values so far, and zeros behind them
use Rattle.std.proofs.Common.{◌≡◌, ◌+◌, ◌-◌, ◌*◌, ◌++◌, replicate}
use Rattle.seq_store.specs.Ring.{generation_at, generation_octets, numbers_octets, replaced}
use Rattle.seq_store.proofs.bank.next_body.Given as goal

abbrev pub invariant-loop-w : goal.invariant-loop-w
invariant-loop-w l =
    l.body ≡ generation_octets (generation_at l.octets (l.current + 1) + 1)
    ++ numbers_octets (replaced 1 l.values l.octets l.current l.value l.number) l.w
    ++ replicate (6 * (l.values - l.w) + 128) 0
