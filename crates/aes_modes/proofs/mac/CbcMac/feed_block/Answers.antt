use Rattle.std.proofs.Common.{◌≡◌, List, ℕ, ◌++◌, ap, ◌∙◌, subst, sym, arith}
use Rattle.aes_modes.specs.Cipher.{cipher}
use Rattle.aes_modes.specs.Modes.{MacState, WasFed}
use Rattle.aes_modes.proofs.Chaining.{WasFed_block}
use Rattle.aes_modes.proofs.mac.CbcMac.feed_block.Goals as goal

pub returns-clause-fed : goal.returns-clause-fed
returns-clause-fed c = λ fed h.
    let before : MacState =
    record { key = c.self.inside.key; block = c.self.inside.block; used = c.self.inside.used } in
    let held : WasFed before fed = subst (λ (s : MacState). WasFed s fed) (sym c.self.view_is) h in
    let same : before.used ≡ c.args.self.now.used = ap (λ (s : MacState). s.used) c.self.view_is in
    let none : c.self.inside.used ≡ 0 = omega arith in
    let after = c.encrypt_block.ensures ∙ ap (cipher c.self.inside.key) c.xor_block.ensures in
    let block : WasFed (record { key = c.self.inside.key; block = c.encrypt_block.new.block; used = 0 })
    (fed ++ c.args.block.now) =
    let P : List ℕ → Type 0 =
    λ b. WasFed (record { key = c.self.inside.key; block = b; used = 0 }) (fed ++ c.args.block.now) in
    subst P (sym after) (WasFed_block before fed c.args.block.now held c.told-block none) in
    let Q : ℕ → Type 0 = λ u. WasFed (record { key = c.self.inside.key; block = c.encrypt_block.new.block; used = u })
    (fed ++ c.args.block.now) in
    subst Q (sym none) block
