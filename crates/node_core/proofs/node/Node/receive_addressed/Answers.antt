use Rattle.std.proofs.Common.{ap, sym, ◌∙◌}
use Rattle.std.specs.Option.{option_and_then}
use Rattle.cemi_frames.specs.Frames.{telegram}
use Rattle.judge_rules.specs.Checks.{verdict_of, kept_by}
use Rattle.judge_rules.specs.Parts.{source_of}
use Rattle.sync_service.specs.Open.{asked_of}
use Rattle.node_core.specs.Node.{node_state}
use Rattle.node_core.specs.Standing.{place_in, mark_at}
use Rattle.node_core.proofs.Acting.{kept_then_acts, kept_then_stops, kept_then_does, runs_on_lane, does_on_lane}
use Rattle.node_core.proofs.node.Node.receive_addressed.Goals as goal

pub returns-in-Ok-clause-runs : goal.returns-in-Ok-clause-runs
returns-in-Ok-clause-runs g c =
    let node = node_state c.args.self.now in
    let t = telegram c.args.frame.now in
    let said = c.judged-lane.ensures in
    let rows = node.config.rows in
    let marks = node.standing.numbers.marks in
    let asked = asked_of node.standing.pending (source_of t) in
    let place = said.place ∙ ap (option_and_then (place_in node.config)) c.in-Some.is in
    let kept = said.keeps ∙ ap (λ p. kept_by rows (mark_at marks p) asked t) place in
    let verdict = said.verdict ∙ ap (λ p. verdict_of rows (mark_at marks p) asked t) place in
    runs_on_lane node.config node.standing t c.args.to (sym c.in-Some.is ∙ said.lane)
    (kept_then_acts node.standing place kept (node_state c.keep.new.self).standing _ _ c.args.frame.now.source c.args.to
    c.in-Some.lane _ _ _ _ c.in-Ok.ensures.config c.in-Ok.ensures.kept (c.bytes.ensures.octets ∙ said.opened) verdict
    c.in-Ok.ensures.runs c.act_on_verdict.ensures.runs)

pub returns-in-Err-clause-runs : goal.returns-in-Err-clause-runs
returns-in-Err-clause-runs g c =
    let node = node_state c.args.self.now in
    let t = telegram c.args.frame.now in
    let said = c.judged-lane.ensures in
    let rows = node.config.rows in
    let marks = node.standing.numbers.marks in
    let asked = asked_of node.standing.pending (source_of t) in
    let place = said.place ∙ ap (option_and_then (place_in node.config)) c.in-Some.is in
    let kept = said.keeps ∙ ap (λ p. kept_by rows (mark_at marks p) asked t) place in
    runs_on_lane node.config node.standing t c.args.to (sym c.in-Some.is ∙ said.lane)
    (kept_then_stops node.standing place kept _ c.in-Err.ensures.runs)

pub returns-in-Ok-clause-does : goal.returns-in-Ok-clause-does
returns-in-Ok-clause-does g c =
    let node = node_state c.args.self.now in
    let t = telegram c.args.frame.now in
    let said = c.judged-lane.ensures in
    let rows = node.config.rows in
    let marks = node.standing.numbers.marks in
    let asked = asked_of node.standing.pending (source_of t) in
    let place = said.place ∙ ap (option_and_then (place_in node.config)) c.in-Some.is in
    let kept = said.keeps ∙ ap (λ p. kept_by rows (mark_at marks p) asked t) place in
    let verdict = said.verdict ∙ ap (λ p. verdict_of rows (mark_at marks p) asked t) place in
    does_on_lane node.config node.standing t c.args.to (sym c.in-Some.is ∙ said.lane)
    (kept_then_does {old = node} {mid = node_state c.keep.new.self} place kept c.args.frame.now.source c.args.to
    c.in-Some.lane _ _ _ _ c.in-Ok.ensures.config c.in-Ok.ensures.kept (c.bytes.ensures.octets ∙ said.opened) verdict
    c.act_on_verdict.ensures.does)
