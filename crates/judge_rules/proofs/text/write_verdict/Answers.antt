use Rattle.std.proofs.Common.{[], ◌++◌, ap, subst, sym, ◌∙◌}
use Rattle.std.specs.Io.KnownBytes.{append_known}
use Rattle.hex.specs.Hex.{encode_lower}
use Rattle.knx_base.specs.Sink.{AppendsPrefix, Prints}
use Rattle.knx_base.proofs.Printing.{prints_then, prints_no_more}
use Rattle.judge_rules.specs.Text.{verdict_text}
use Rattle.judge_rules.proofs.Shown.{accepted_parts, text_begins}
use Rattle.judge_rules.proofs.text.write_verdict.Goals as goal

pub returns-in_err-print_text-clause-text : goal.returns-in_err-print_text-clause-text
returns-in_err-print_text-clause-text g c =
    let front = verdict_text c.args.verdict.now [] in
    let text = c.bytes.ensures.octets ∙ c.put_verdict.ensures.added ∙ ap (λ line. line ++ front) c.new-line.ensures.empty
    in
    let begins = text_begins c.args.verdict.now c.args.apdu.now in
    subst (Prints _ _ c.from_residual.result) begins.1
    (prints_no_more _ _ c.from_residual.result front begins.0 c.from_residual.ensures.0
    (subst (AppendsPrefix _ _) text c.in_err-print_text.ensures.text))

pub returns-in-Accepted-clause-text : goal.returns-in-Accepted-clause-text
returns-in-Accepted-clause-text g c =
    let front = verdict_text c.args.verdict.now [] in
    let text = c.bytes.ensures.octets ∙ c.put_verdict.ensures.added ∙ ap (λ line. line ++ front) c.new-line.ensures.empty
    in
    let whole = ap (λ verdict. verdict_text verdict [] ++ encode_lower c.args.apdu.now) c.in-Accepted.is
    ∙ accepted_parts _ _ c.args.apdu.now
    ∙ ap (λ verdict. verdict_text verdict c.args.apdu.now) (sym c.in-Accepted.is) in
    subst (Prints _ _ c.print_octets.result) whole
    (prints_then _ _ _ c.print_octets.result front (encode_lower c.args.apdu.now)
    (c.in_ok-print_text.ensures.text ∙ ap (append_known _) text) c.print_octets.ensures.text)
