use Rattle.std.proofs.Common.{◌≡◌, ◌≢◌, List, ℕ, take, drop, sym, ap, ◌∙◌, subst, rules}
use Rattle.std.proofs.lemmas.List.{take_rest}
use Rattle.knx_ccm.specs.Sealing.{code_of, wired, Opens}
use Rattle.knx_ccm.proofs.SealingLemmas.{wired-back, opens-found, opens-back, length-line, copied, opened-some, opened-none, opened-law}
use Rattle.knx_ccm.proofs.opening.open.Goals as goal

pub returns-then-eq-clause-opened : goal.returns-then-eq-clause-opened
returns-then-eq-clause-opened c =
    let key = c.args.key.now in
    let head = c.args.head.now in
    let line = c.decrypt.new.line in
    let agree : c.front-said.result ≡ c.code-computed.result = search rules in
    let apdu = copied c.args.body.now line _ _ (length-line key head c.args.body.now line c.decrypt.ensures)
    c.copy_from_slice.ensures.after in
    let same : take 4 line ≡ code_of key head (drop 4 line) =
    sym c.front-said.ensures ∙ agree ∙ c.code-computed.ensures ∙ ap (code_of key head) (take_rest line 4) in
    subst (Opens key head c.args.body.now) (sym apdu) (opens-back key head c.args.body.now line c.requires.code
    c.decrypt.ensures same)

pub returns-then-eq-clause-only : goal.returns-then-eq-clause-only
returns-then-eq-clause-only c = λ apdu opens.
    let key = c.args.key.now in
    let head = c.args.head.now in
    let line = c.decrypt.new.line in
    copied c.args.body.now line _ _ (length-line key head c.args.body.now line c.decrypt.ensures)
    c.copy_from_slice.ensures.after
    ∙ (opens-found key head c.args.body.now line apdu c.decrypt.ensures opens).1

pub returns-else-eq-clause-only : goal.returns-else-eq-clause-only
returns-else-eq-clause-only c = λ apdu opens.
    let key = c.args.key.now in
    let line = c.decrypt.new.line in
    let found = opens-found key c.args.head.now c.args.body.now line apdu c.decrypt.ensures opens in
    let same : c.front-said.result ≡ c.code-computed.result =
    c.front-said.ensures ∙ found.0 ∙ ap (code_of key c.args.head.now) (sym found.1 ∙ sym (take_rest line 4))
    ∙ sym c.code-computed.ensures in
    let differ : c.front-said.result ≢ c.code-computed.result = search rules in
    differ same

pub returns-else-eq-clause-codes : goal.returns-else-eq-clause-codes
returns-else-eq-clause-codes c =
    let key = c.args.key.now in
    let head = c.args.head.now in
    let line = c.decrypt.new.line in
    record {
      apdu = drop 4 line;
      on_the_wire = ap (λ (said : List ℕ). wired key head said (drop 4 line)) c.front-said.ensures
          ∙ wired-back key head c.args.body.now line c.requires.code c.decrypt.ensures;
      of_the_apdu = ap (code_of key head) (sym (take_rest line 4)) ∙ sym c.code-computed.ensures;
    }

pub returns-then-eq-clause-answer : goal.returns-then-eq-clause-answer
returns-then-eq-clause-answer c =
    let line = c.decrypt.new.line in
    let apdu = copied c.args.body.now line _ _ (length-line c.args.key.now c.args.head.now c.args.body.now line
    c.decrypt.ensures) c.copy_from_slice.ensures.after in
    opened-some c.args.key.now c.args.head.now c.args.body.now _ (apdu ∙ ap (drop 4) c.decrypt.ensures)
    (returns-then-eq-clause-opened c)

pub returns-else-eq-clause-answer : goal.returns-else-eq-clause-answer
returns-else-eq-clause-answer c =
    let key = c.args.key.now in
    let head = c.args.head.now in (
      opened-none key head c.args.body.now (returns-else-eq-clause-only c),
      c.front-said.ensures ∙ ap (take 4) c.decrypt.ensures,
      c.code-computed.ensures ∙ ap (code_of key head) (take_rest c.decrypt.new.line 4 ∙ ap (drop 4) c.decrypt.ensures),
    )

pub returns-then-eq-clause-law : goal.returns-then-eq-clause-law
returns-then-eq-clause-law c = opened-law c.args.key.now c.args.head.now c.args.body.now

pub returns-else-eq-clause-law : goal.returns-else-eq-clause-law
returns-else-eq-clause-law c = opened-law c.args.key.now c.args.head.now c.args.body.now
