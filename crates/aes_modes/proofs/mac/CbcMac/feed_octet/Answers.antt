use Rattle.std.proofs.Common.{List, ℕ, [], ◌∷◌, ◌++◌, subst, sym, arith}
use Rattle.aes_modes.specs.Modes.{MacState, WasFed}
use Rattle.aes_modes.proofs.Chaining.{WasFed_octet, WasFed_last_octet}
use Rattle.aes_modes.proofs.mac.CbcMac.feed_octet.Goals as goal

pub returns-then-self-eq-BLOCK_LEN-clause-fed : goal.returns-then-self-eq-BLOCK_LEN-clause-fed
returns-then-self-eq-BLOCK_LEN-clause-fed c = λ fed h.
    let before : MacState =
    record { key = c.self.inside.key; block = c.self.inside.block; used = c.self.inside.used } in
    let held : WasFed before fed = subst (λ (s : MacState). WasFed s fed) (sym c.self.view_is) h in
    let P : List ℕ → Type 0 =
    λ b. WasFed (record { key = c.self.inside.key; block = b; used = 0 }) (fed ++ c.args.octet ∷ []) in
    subst P (sym c.encrypt_block.ensures) (WasFed_last_octet before fed c.args.octet held c.self.told
    c.if-self-eq-BLOCK_LEN.true)

pub returns-else-self-eq-BLOCK_LEN-clause-fed : goal.returns-else-self-eq-BLOCK_LEN-clause-fed
returns-else-self-eq-BLOCK_LEN-clause-fed c = λ fed h.
    let before : MacState =
    record { key = c.self.inside.key; block = c.self.inside.block; used = c.self.inside.used } in
    let held : WasFed before fed = subst (λ (s : MacState). WasFed s fed) (sym c.self.view_is) h in
    WasFed_octet before fed c.args.octet held c.self.told (omega arith)
