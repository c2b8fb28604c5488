use Rattle.std.proofs.Common.{subst, ap, ◌∙◌}
use Rattle.std.specs.Io.KnownBytes.{append_known}
use Rattle.knx_base.specs.Sink.{AppendsPrefix}
use Rattle.knxsec_app.proofs.Answering.{cut_back, passes_through, fails_through}
use Rattle.knxsec_app.proofs.part.pass.Goals as goal

pub returns-in_err-hand_on-in-Err-clause-text : goal.returns-in_err-hand_on-in-Err-clause-text
returns-in_err-hand_on-in-Err-clause-text g c =
    let back = cut_back c.args.page.now.held _ _ c.len-held.result c.cut.new.self.held c.in-Err.ensures.text
    c.len-held.ensures.length c.cut.ensures.front in
    fails_through c.from_residual.result _ _ c.args.page.now.held _ _ c.from_residual.ensures.0
    (subst (AppendsPrefix (g.S.Sink.octets c.args.out.now) (g.S.Sink.octets c.hand_on.new.out)) back
    c.in_err-hand_on-in-Err.ensures.text)

pub returns-in_ok-hand_on-in-Err-clause-text : goal.returns-in_ok-hand_on-in-Err-clause-text
returns-in_ok-hand_on-in-Err-clause-text g c =
    let back = cut_back c.args.page.now.held _ _ c.len-held.result c.cut.new.self.held c.in-Err.ensures.text
    c.len-held.ensures.length c.cut.ensures.front in
    passes_through _ _ _ c.print-in-Err.result c.args.page.now.held _ _
    (c.in_ok-hand_on-in-Err.ensures.text ∙ ap (append_known (g.S.Sink.octets c.args.out.now)) back)
    c.in_ok-hand_on-in-Err.ensures.empty c.print-in-Err.ensures.text
