use Rattle.std.proofs.Common.{◌+◌, ◌*◌, ◌-◌, arith}
use Rattle.seq_store.proofs.Steps.{value_start, value_more, value_end}
use Rattle.seq_store.proofs.bank.bank_value.Goals as goal

pub loop-k-init : goal.loop-k-init
loop-k-init c =
    value_start c.args.values c.args.octets.now c.args.at c.args.value c.six_at-number.result c.six_at-number.ensures

pub loop-k-preserved : goal.loop-k-preserved
loop-k-preserved c =
    value_more c.args.octets.now (c.args.at + 9 + 6 * c.args.values) c.args.value c.loop-k.k c.with_record-number.result
    c.loop-k.number _
    c.loop-k-test.true c.with_record-number.ensures c.loop-k.invariant

pub returns : goal.returns
returns c = value_end c.args.octets.now _ c.args.value c.loop-k.number (16 - c.loop-k.k) _
    (omega (arith, c.loop-k-test.false)) c.loop-k.invariant
