use Rattle.std.proofs.Common.{◌≡◌, List, ℕ, sym, ◌∙◌, ap, subst}
use Rattle.tag_text.specs.Document.{Left, State, left_of, start_of, outcome_of}
use Rattle.tag_text.specs.Grammar.{IsDocument}
use Rattle.tag_text.proofs.ScanLemmas.{well_formed, ill_formed}
use Rattle.tag_text.proofs.LawLemmas.{is_document}
use Rattle.tag_text.proofs.reader.TagReader.new.Goals as goal

by_outcome : (octets : List ℕ) (left : Left) → left ≡ outcome_of octets → IsDocument octets left
by_outcome octets left is =
    let P : Left → Type 0 = λ left'. IsDocument octets left' in subst P (sym is) (is_document octets)

pub returns-in-Ok : goal.returns-in-Ok
returns-in-Ok c =
    let all =
    ap (λ (s : State). left_of s) c.new.ensures.start ∙ ap (λ (octets : List ℕ). left_of (start_of octets))
    c.in-Ok.ensures.cases.0
    ∙ sym (well_formed c.args.bytes.now c.in-Ok.ensures.cases.1) in
    record { document = by_outcome c.args.bytes.now _ all; all = all }

pub returns-in-Err : goal.returns-in-Err
returns-in-Err c =
    let all =
    sym (ill_formed c.args.bytes.now c.valid_up_to.result (rw (← c.valid_up_to.ensures) at c.in-Err.ensures.cases.1)
    (c.valid_up_to.ensures ∙ c.in-Err.ensures.valid_len)) in
    record { document = by_outcome c.args.bytes.now _ all; all = all }
