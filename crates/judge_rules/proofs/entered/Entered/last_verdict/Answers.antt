use Rattle.std.proofs.Common.{◌≡◌, ap, ◌∙◌, sym, true, []}
use Rattle.std.proofs.lemmas.Bool.{eq-eqb}
use Rattle.std.specs.Prelude.{if◌then◌else◌, ◌==◌, Bool, ℕ}
use Rattle.cemi_frames.specs.Frames.{telegram}
use Rattle.secure_apdu.specs.Sync.{sync_values}
use Rattle.judge_rules.specs.Parts.{sync_service, service_in}
use Rattle.judge_rules.specs.Checks.{data_checks, first_failing, verdict_or}
use Rattle.judge_rules.specs.declared.verdict.Verdict.TheVariants as verdict
use Rattle.judge_rules.proofs.entered.Entered.last_verdict.Goals as goal

pub returns-in-0 : goal.returns-in-0
returns-in-0 c =
    let t = telegram c.args.self.now.frame in
    let service : ℕ = sync_service t in
    let is_data : (service == 0) ≡ true = eq-eqb service 0 (sym c.service.ensures ∙ c.in-0.is) in
    let other = if service == 2 then verdict.SyncAsk c.args.number c.args.apdu.now
    else verdict.SyncAnswer c.args.number (sync_values c.args.apdu.now).1 in
    c.data_verdict.ensures ∙ sym (ap (λ (b : Bool). verdict_or
    (if b then verdict.Accepted c.args.number (service_in c.args.apdu.now) else other)
    (first_failing (if b then data_checks c.args.self.now.tables.now c.args.kept c.args.number c.args.self.now.channel
    t c.args.apdu.now else []))) is_data)
