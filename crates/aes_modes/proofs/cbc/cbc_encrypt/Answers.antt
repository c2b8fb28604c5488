use Rattle.std.proofs.Common.{◌≡◌, ℕ, ◌+◌, ◌-◌, ◌*◌, ◌/◌, ◌%◌, List, length, slice_index, refl, subst, sym, ap, ◌∙◌, inl, inr, arith}
use Rattle.std.proofs.lemmas.Bool.{cases_lt}
use Rattle.std.proofs.lemmas.Grind.{same_number_lists}
use Rattle.aes_modes.specs.Cipher.{xor_blocks, cipher}
use Rattle.aes_modes.specs.Modes.{block_at, chained, cbc_of}
use Rattle.aes_modes.proofs.Squares.{xor_blocks_comm}
use Rattle.aes_modes.proofs.Chaining.{block_at_same, chained_next, chained-at, length-cbc_of, cbc_of-at}
use Rattle.aes_modes.proofs.cbc.cbc_encrypt.Goals as goal

pub each-init : goal.each-init
unfolding chained
each-init c = record { block = refl; done = λ i lt. absurd (omega arith); rest = λ i le. refl }

pub each-preserved : goal.each-preserved
each-preserved c =
    let key = c.args.key.now in
    let iv = c.args.iv.now in
    let old = c.args.octets.now in
    let new = c.put_block.new.octets in
    let n = c.each.n in
    let plain : c.block_at.result ≡ block_at old n =
    c.block_at.ensures.block ∙ block_at_same c.each.octets old n
    (λ i lt. c.each.invariant.rest (16 * n + i) (omega arith)) in
    let block : c.encrypt_block.new.block ≡ chained key iv old (n + 1) =
    c.encrypt_block.ensures
    ∙ ap (cipher key) (c.xor_block.ensures ∙ (λ k. xor_blocks (c.each.invariant.block k) (plain k))
    ∙ xor_blocks_comm (chained key iv old n) (block_at old n))
    ∙ sym (chained_next key iv old n) in
    let IsDone : ℕ → Type 0 = λ m. slice_index new m ≡ slice_index (chained key iv old (m / 16 + 1)) (m % 16) in
    record {
      block = block;
      done = λ i lt. elim (cases_lt i (16 * n)) [
        | inl earlier ↦ c.put_block.ensures.before i earlier ∙ c.each.invariant.done i earlier
        | inr now ↦
            let place : 16 * n + (i - 16 * n) ≡ i = omega arith in
            subst IsDone place (
            c.put_block.ensures.block (i - 16 * n) (omega arith)
            ∙ ap (λ (b : List ℕ). slice_index b (i - 16 * n)) block
            ∙ sym (chained-at key iv old n (i - 16 * n) (omega arith))
            )
      ];
      rest = λ i le. c.put_block.ensures.after i (omega arith) ∙ c.each.invariant.rest i (omega arith);
    }

pub returns : goal.returns
returns c =
    let old = c.args.octets.now in
    let long : length (cbc_of c.args.key.now c.args.iv.now old) ≡ length old =
    length-cbc_of c.args.key.now c.args.iv.now old in
    same_number_lists c.each.octets (cbc_of c.args.key.now c.args.iv.now old) (c.each.auto.octets ∙ sym long)
    (λ i lt. c.each.invariant.done i (omega arith) ∙ sym (cbc_of-at c.args.key.now c.args.iv.now old i (omega arith)))
