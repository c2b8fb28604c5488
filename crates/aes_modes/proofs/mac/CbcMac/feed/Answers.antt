use Rattle.std.proofs.Common.{List, ℕ, ◌+◌, ◌-◌, ◌*◌, ◌/◌, length, subst, arith}
use Rattle.aes_modes.specs.Modes.{WasFed}
use Rattle.aes_modes.proofs.Chaining.{append-cuts}
use Rattle.aes_modes.proofs.mac.CbcMac.feed.Goals as goal

pub returns-clause-fed : goal.returns-clause-fed
returns-clause-fed c = λ fed h.
    let bytes = c.args.bytes.now in
    let head = c.min-head.result in
    let tail = head + 16 * ((length bytes - head) / 16) in
    let fed1 = c.feed_octets.ensures.fed fed h in
    let fed2 = c.feed_blocks.ensures.fed _ fed1 in
    let fed3 = c.feed_octets-2.ensures.fed _ fed2 in
    subst (λ (l : List ℕ). WasFed c.feed_octets-2.new.self l) (append-cuts fed bytes head tail (omega arith)) fed3
