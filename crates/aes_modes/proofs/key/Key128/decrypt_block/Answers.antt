use Rattle.std.proofs.Common.{◌≡◌, ℕ, suc, ◌+◌, ◌-◌, List, [], slice_index_or, refl, sym, subst, ap, ◌∙◌, arith}
use Rattle.aes_modes.specs.Cipher.{IsBlock, xor_blocks, round, last_round, key_expansion, rounds, cipher}
use Rattle.aes_modes.specs.Words.{block_of}
use Rattle.aes_modes.proofs.Squares.{round_key_at, IsBlock_block_of, xor_blocks_twice}
use Rattle.aes_modes.proofs.Injective.{IsBlock_rounds, round_injective, last_round_injective}
use Rattle.aes_modes.proofs.key.Key128.decrypt_block.Goals as goal

pub rounds-init : goal.rounds-init
unfolding cipher
rounds-init c =
    let k = c.args.self.now in
    let key = round_key_at c.self.inside.round_keys k c.self.invariant c.self.view_is in
    let is_key : IsBlock k =
    subst IsBlock c.self.view_is (IsBlock_block_of (slice_index_or c.self.inside.round_keys 0 [])) in
    let state = c.undo_last_round-state.result in
    let undone : last_round (block_of state) (key_expansion k 10) ≡ c.args.block.now =
    ap (last_round (block_of state)) (sym (key 10 (omega arith))) ∙ c.undo_last_round-state.ensures
    ∙ c.load.ensures.same in
    record {
      back = λ b e. ap (λ (s : List ℕ). last_round s (key_expansion k 10)) e ∙ undone;
      only = λ b h e. last_round_injective (rounds k b 9) (block_of state) (key_expansion k 10)
          (IsBlock_rounds k b is_key h 9 (omega arith)) (IsBlock_block_of state) (e ∙ sym undone);
    }

pub rounds-preserved : goal.rounds-preserved
unfolding rounds
rounds-preserved c =
    let k = c.args.self.now in
    let key = round_key_at c.self.inside.round_keys k c.self.invariant c.self.view_is in
    let is_key : IsBlock k =
    subst IsBlock c.self.view_is (IsBlock_block_of (slice_index_or c.self.inside.round_keys 0 [])) in
    let n = c.rounds.n in
    let before = c.undo_round-before.result in
    let undone : round (block_of before) (key_expansion k (10 - n)) ≡ block_of c.rounds.state =
    ap (round (block_of before)) (sym (key (10 - n) (omega arith))) ∙ c.undo_round-before.ensures in
    let next : 10 - n ≡ suc (10 - (n + 1)) = omega arith in
    let step : (b : List ℕ) → rounds k b (10 - n) ≡ round (rounds k b (10 - (n + 1))) (key_expansion k (10 - n)) =
    λ b. ap (rounds k b) next ∙ ap (λ (m : ℕ). round (rounds k b (10 - (n + 1))) (key_expansion k m)) (sym next) in
    record {
      back = λ b e. c.rounds.invariant.back b (step b ∙ ap (λ (s : List ℕ). round s (key_expansion k (10 - n))) e
          ∙ undone);
      only = λ b h e. round_injective (rounds k b (10 - (n + 1))) (block_of before) (key_expansion k (10 - n))
          (IsBlock_rounds k b is_key h (10 - (n + 1)) (omega arith)) (IsBlock_block_of before)
          (sym (step b) ∙ c.rounds.invariant.only b h e ∙ sym undone);
    }

-- what is written is the state with the first round key added
written : (c : goal.After-store) → c.store.result ≡ xor_blocks (block_of c.rounds.state)
    (key_expansion c.args.self.now 0)
written c =
    let key = round_key_at c.self.inside.round_keys c.args.self.now c.self.invariant c.self.view_is in
    c.store.ensures ∙ c.add_key.ensures ∙ ap (xor_blocks (block_of c.rounds.state)) (key 0 (omega arith))

pub returns-clause-encrypts_back : goal.returns-clause-encrypts_back
unfolding rounds
returns-clause-encrypts_back c =
    let k = c.args.self.now in
    let b = c.store.result in
    let done : 10 - c.rounds.n ≡ 0 = omega arith in
    c.rounds.invariant.back b (
    ap (rounds k b) done
    ∙ ap (λ (s : List ℕ). xor_blocks s (key_expansion k 0)) (written c)
    ∙ xor_blocks_twice (block_of c.rounds.state) (key_expansion k 0) refl
    )

pub returns-clause-only : goal.returns-clause-only
unfolding rounds
returns-clause-only c = λ plain h e.
    let k = c.args.self.now in
    let done : 10 - c.rounds.n ≡ 0 = omega arith in
    let first : xor_blocks plain (key_expansion k 0) ≡ block_of c.rounds.state =
    sym (ap (rounds k plain) done) ∙ c.rounds.invariant.only plain h e in
    written c ∙ ap (λ (s : List ℕ). xor_blocks s (key_expansion k 0)) (sym first)
    ∙ xor_blocks_twice plain (key_expansion k 0) h.length
