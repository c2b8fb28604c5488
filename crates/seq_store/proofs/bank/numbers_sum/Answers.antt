use Rattle.std.proofs.Common.{◌≡◌, ◌∙◌, arith}
use Rattle.seq_store.specs.Ring.{bank_number}
use Rattle.seq_store.proofs.Steps.{sum_start, sum_more}
use Rattle.seq_store.proofs.Sums.{sum_bound}
use Rattle.seq_store.proofs.bank.numbers_sum.Goals as goal

pub loop-v-init : goal.loop-v-init
loop-v-init c = sum_start c.args.octets.now c.args.at

pub overflow_add-sum : goal.overflow_add-sum
overflow_add-sum c =
    omega (
      arith,
      sum_bound c.args.octets.now c.args.at c.loop-v.v,
      c.loop-v.invariant,
      c.get-sum.ensures.fits,
      c.get-sum.ensures.value,
      c.loop-v-test.true,
      c.requires.values_fit,
    )

pub loop-v-preserved : goal.loop-v-preserved
loop-v-preserved c =
    sum_more c.args.octets.now c.args.at c.loop-v.v c.loop-v.sum c.get-sum.result c.loop-v.invariant
    (c.get-sum.ensures.value ∙ c.six_at.ensures)
