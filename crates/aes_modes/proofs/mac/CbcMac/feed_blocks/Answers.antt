use Rattle.std.proofs.Common.{◌≡◌, List, ℕ, ◌+◌, ◌*◌, ◌++◌, take, subst, ap, ◌∙◌, sym, arith}
use Rattle.std.proofs.lemmas.List.{append_assoc}
use Rattle.aes_modes.specs.Modes.{WasFed}
use Rattle.aes_modes.proofs.Chaining.{take-block}
use Rattle.aes_modes.proofs.mac.CbcMac.feed_blocks.Goals as goal

pub each-preserved : goal.each-preserved
each-preserved c =
    let blocks = c.args.blocks.now in
    let n = c.each.n in
    record {
      key = c.feed_block.ensures.key ∙ c.each.invariant.key;
      between = λ _. c.feed_block.ensures.used;
      fed = λ fed h.
          let more : (fed ++ take (16 * n) blocks) ++ c.block_at.result ≡ fed ++ take (16 * (n + 1)) blocks =
          append_assoc fed (take (16 * n) blocks) c.block_at.result
          ∙ ap (λ (l : List ℕ). fed ++ l) (ap (λ (l : List ℕ). take (16 * n) blocks ++ l) c.block_at.ensures.block
          ∙ sym (take-block blocks n (omega arith))) in
          subst (λ (l : List ℕ). WasFed c.feed_block.new.self l) more
          (c.feed_block.ensures.fed (fed ++ take (16 * n) blocks) (c.each.invariant.fed fed h));
    }
