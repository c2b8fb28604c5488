use Rattle.std.proofs.Common.{◌≡◌, ℕ, suc, ◌+◌, ◌-◌, sym, ap, ◌∙◌, arith}
use Rattle.aes_modes.specs.Cipher.{xor_blocks, round, last_round, key_expansion, rounds, cipher}
use Rattle.aes_modes.proofs.Squares.{round_key_at}
use Rattle.aes_modes.proofs.key.Key128.encrypt_block.Goals as goal

pub rounds-init : goal.rounds-init
unfolding rounds
rounds-init c =
    let key = round_key_at c.self.inside.round_keys c.args.self.now c.self.invariant c.self.view_is in
    c.add_key-state.ensures ∙ (λ i. xor_blocks (c.load.ensures.same i) (key 0 (omega arith) i))

pub rounds-preserved : goal.rounds-preserved
unfolding rounds
rounds-preserved c =
    let key = round_key_at c.self.inside.round_keys c.args.self.now c.self.invariant c.self.view_is in
    let n : c.rounds.n ≡ suc (c.rounds.n - 1) = omega arith in
    let next : c.rounds.n + 1 - 1 ≡ suc (c.rounds.n - 1) = omega arith in
    c.round-next.ensures
    ∙ (λ i. round (c.rounds.invariant i) (key c.rounds.n (omega arith) i))
    ∙ ap (λ (m : ℕ). round (rounds c.args.self.now c.args.block.now (c.rounds.n - 1)) (key_expansion c.args.self.now m))
    n
    ∙ ap (λ (m : ℕ). rounds c.args.self.now c.args.block.now m) (sym next)

pub returns : goal.returns
unfolding cipher
returns c =
    let key = round_key_at c.self.inside.round_keys c.args.self.now c.self.invariant c.self.view_is in
    let n : c.rounds.n - 1 ≡ 9 = omega arith in
    c.store.ensures
    ∙ c.last_round.ensures
    ∙ (λ i. last_round ((c.rounds.invariant ∙ ap (rounds c.args.self.now c.args.block.now) n) i)
    (key 10 (omega arith) i))
