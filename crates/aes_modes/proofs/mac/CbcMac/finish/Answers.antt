use Rattle.std.proofs.Common.{[], ◌∙◌, ap, subst, sym, arith}
use Rattle.aes_modes.specs.Modes.{MacState, WasFed, mac_of}
use Rattle.aes_modes.proofs.Chaining.{WasFed-mac_within, WasFed-mac_between, mac_of-nil}
use Rattle.aes_modes.proofs.mac.CbcMac.finish.Goals as goal

pub returns-then-self-gt0-clause-mac : goal.returns-then-self-gt0-clause-mac
returns-then-self-gt0-clause-mac c = λ fed h.
    let state : MacState = record { key = c.self.inside.key; block = c.self.inside.block; used = c.self.inside.used } in
    let held : WasFed state fed = subst (λ (s : MacState). WasFed s fed) (sym c.self.view_is) h in
    c.encrypt_block.ensures ∙ WasFed-mac_within state fed held c.if-self-gt0.true
    ∙ ap (λ (s : MacState). mac_of s.key fed) c.self.view_is

pub returns-else-self-gt0-clause-mac : goal.returns-else-self-gt0-clause-mac
returns-else-self-gt0-clause-mac c = λ fed h.
    let state : MacState = record { key = c.self.inside.key; block = c.self.inside.block; used = c.self.inside.used } in
    let held : WasFed state fed = subst (λ (s : MacState). WasFed s fed) (sym c.self.view_is) h in
    WasFed-mac_between state fed held (omega arith) ∙ ap (λ (s : MacState). mac_of s.key fed) c.self.view_is

pub returns-then-self-gt0-clause-nothing_fed : goal.returns-then-self-gt0-clause-nothing_fed
returns-then-self-gt0-clause-nothing_fed c = λ h. returns-then-self-gt0-clause-mac c [] h ∙ mac_of-nil c.args.self.key

pub returns-else-self-gt0-clause-nothing_fed : goal.returns-else-self-gt0-clause-nothing_fed
returns-else-self-gt0-clause-nothing_fed c = λ h. returns-else-self-gt0-clause-mac c [] h ∙ mac_of-nil c.args.self.key
