use Rattle.std.proofs.Common.{◌≡◌, ℕ, ◌+◌, ◌-◌, ◌*◌, ◌<◌, List, length, slice_index, subst, sym, ap, ◌∙◌, inl, inr, arith}
use Rattle.std.proofs.lemmas.List.{set-set}
use Rattle.std.proofs.lemmas.Bool.{cases_lt}
use Rattle.std.proofs.lemmas.Grind.{same_number_lists}
use Rattle.aes_modes.specs.Octet.{◌⊕◌}
use Rattle.aes_modes.specs.Cipher.{cipher}
use Rattle.aes_modes.specs.Modes.{stream_of, with_stream}
use Rattle.aes_modes.proofs.Streams.{length-with_stream, with_stream-at, with_stream-twice, stream_of-at}
use Rattle.aes_modes.proofs.counter.ctr_apply.Goals as goal

pub each-preserved : goal.each-preserved
each-preserved c =
    let key = c.args.key.now in
    let ctr0 = c.args.ctr0.now in
    let old = c.args.octets.now in
    let new = c.add_stream.new.octets in
    let n = c.each.n in
    let IsDone : ℕ → Type 0 = λ m. slice_index new m ≡ slice_index old m ⊕ stream_of key ctr0 m in
    let block : (i : ℕ) → i < 16 → 16 * n + i < length old → IsDone (16 * n + i) = λ i lt within.
    let stream : slice_index c.encrypt_block.new.block i ≡ stream_of key ctr0 (16 * n + i) =
    ap (λ (b : List ℕ). slice_index b i) (c.encrypt_block.ensures ∙ ap (cipher key) (c.each.invariant.counter n))
    ∙ sym (stream_of-at key ctr0 n i lt) in
    c.add_stream.ensures.block i lt (omega arith) ∙ (λ k. c.each.invariant.rest (16 * n + i) (omega arith) k ⊕ stream
    k) in
    record {
      counter = λ x. set-set c.each.counter 15 n x ∙ c.each.invariant.counter x;
      done = λ i lt within. elim (cases_lt i (16 * n)) [
        | inl earlier ↦ c.add_stream.ensures.before i earlier ∙ c.each.invariant.done i earlier within
        | inr now ↦
            let place : 16 * n + (i - 16 * n) ≡ i = omega arith in
            subst IsDone place (block (i - 16 * n) (omega arith) (omega arith))
      ];
      rest = λ i le. c.add_stream.ensures.after i (omega arith) ∙ c.each.invariant.rest i (omega arith);
    }

is_with_stream : (c : goal.After-each) → c.each.octets ≡ with_stream c.args.key.now c.args.ctr0.now c.args.octets.now
is_with_stream c =
    let old = c.args.octets.now in
    let long : length (with_stream c.args.key.now c.args.ctr0.now old) ≡ length old =
    length-with_stream c.args.key.now c.args.ctr0.now old in
    same_number_lists c.each.octets (with_stream c.args.key.now c.args.ctr0.now old) (c.each.auto.octets ∙ sym long)
    (λ i lt. c.each.invariant.done i (omega arith) (omega arith)
    ∙ sym (with_stream-at c.args.key.now c.args.ctr0.now old i (omega arith)))

pub returns-clause-stream : goal.returns-clause-stream
returns-clause-stream c = is_with_stream c

pub returns-clause-twice : goal.returns-clause-twice
returns-clause-twice c =
    ap (with_stream c.args.key.now c.args.ctr0.now) (is_with_stream c)
    ∙ with_stream-twice c.args.key.now c.args.ctr0.now c.args.octets.now
