use Rattle.std.proofs.Common.{[], ◌∷◌, ◌++◌, Err, ap, subst, ◌∙◌}
use Rattle.std.specs.Io.KnownBytes.{append_known}
use Rattle.knx_base.specs.Sink.{Prints}
use Rattle.knx_base.proofs.Printing.{append_known-append}
use Rattle.step_text.specs.Text.{marks_text}
use Rattle.step_text.proofs.Pieces.{then, no_more}
use Rattle.step_text.proofs.line.print_restored.Goals as goal

pub returns-in_err-print_marks-clause-text : goal.returns-in_err-print_marks-clause-text
returns-in_err-print_marks-clause-text g c =
    let result = c.from_residual-in_err-print_marks.result in
    let front = c.args.front.now in
    let marks = marks_text c.args.lanes.now c.as_slice.result.now in
    let first =
    c.in_ok-print_text.ensures.text ∙ ap (append_known (g.S.Sink.octets c.args.out.now)) c.bytes.ensures.octets in
    subst (λ marks. Prints (g.S.Sink.octets c.args.out.now) (g.S.Sink.octets c.print_marks.new.out) result
    ((front ++ marks_text c.args.lanes.now marks) ++ 10 ∷ []))
    c.as_slice.ensures.numbers
    (no_more _ _ result (front ++ marks) (10 ∷ []) c.from_residual-in_err-print_marks.ensures.0
    (then {T = Unit {0}} {E = Unit {0}} _ _ _ (Err tt) front marks first c.in_err-print_marks.ensures.text))

pub returns-clause-text : goal.returns-clause-text
returns-clause-text g c =
    let front = c.args.front.now in
    let marks = marks_text c.args.lanes.now c.as_slice.result.now in
    let first =
    c.in_ok-print_text.ensures.text ∙ ap (append_known (g.S.Sink.octets c.args.out.now)) c.bytes.ensures.octets in
    let second = c.in_ok-print_marks.ensures.text ∙ ap (λ known. append_known known marks) first
    ∙ append_known-append (g.S.Sink.octets c.args.out.now) front marks in
    subst (λ marks. Prints (g.S.Sink.octets c.args.out.now) (g.S.Sink.octets c.print_text-2.new.out)
    c.print_text-2.result ((front ++ marks_text c.args.lanes.now marks) ++ 10 ∷ []))
    c.as_slice.ensures.numbers
    (then _ _ _ c.print_text-2.result (front ++ marks) (10 ∷ []) second c.print_text-2.ensures.text)
