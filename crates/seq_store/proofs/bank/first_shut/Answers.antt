use Rattle.std.proofs.Common.{◌≡◌, ◌+◌, ◌*◌, ◌-◌, false, true, sym, ap, ◌∙◌, arith}
use Rattle.std.proofs.lemmas.Grind.{common_steps}
use Rattle.std.proofs.lemmas.Bool.Decides.{nat_tests}
use Rattle.nvm_model.specs.Gate.{is_open}
use Rattle.seq_store.proofs.Steps.{first_here, first_next, first_none}
use Rattle.seq_store.proofs.bank.first_shut.Goals as goal

pub returns-then-octets-place : goal.returns-then-octets-place
returns-then-octets-place c =
    let place = c.args.at + 9 + 6 * c.args.values + 8 * c.loop-k.k in
    let shut : is_open c.args.octets.now (c.args.at + 9 + 6 * c.args.values + 8 * c.loop-k.k) ≡ false =
    grind (arith, nat_tests, common_steps) in
    sym (first_here c.args.octets.now (16 - c.loop-k.k) place (omega (arith, c.loop-k-test.true)) shut)
    ∙ c.loop-k.invariant

pub loop-k-preserved : goal.loop-k-preserved
loop-k-preserved c =
    let opened : is_open c.args.octets.now (c.args.at + 9 + 6 * c.args.values + 8 * c.loop-k.k) ≡ true =
    grind (arith, nat_tests, common_steps) in
    first_next c.args.octets.now (c.args.at + 9 + 6 * c.args.values) c.loop-k.k c.loop-k-test.true opened
    ∙ c.loop-k.invariant

pub returns : goal.returns
returns c =
    first_none c.args.octets.now (16 - c.loop-k.k) (c.args.at + 9 + 6 * c.args.values + 8 * c.loop-k.k)
    (omega (arith, c.loop-k-test.false)) ∙ c.loop-k.invariant
