use Rattle.std.proofs.Common.{rules, ◌≡◌, ap, subst, sym, ◌∙◌}
use Rattle.std.specs.Prelude.{IfOk, option_map}
use Rattle.tag_text.specs.Document.{outcome_of}
use Rattle.frame_file.specs.Logs.{entries_of}
use Rattle.frame_file.specs.Lead.{IsFront}
use Rattle.frame_file.specs.LeadView.{lead_of}
use Rattle.frame_file.proofs.RestLemmas.{log_said, read_failed}
use Rattle.frame_file.proofs.log_text.read_log.Goals as goal

pub returns-in-Ok-Some-clause-reads : goal.returns-in-Ok-Some-clause-reads
returns-in-Ok-Some-clause-reads g c =
    log_said (g.F.Files.seen c.args.files.now) (g.F.Files.seen c.read_rest.new.files) c.args.source.now
    c.read_rest.new.source c.in-Some.front.items c.in-Ok-Some.text.items (lead_of c.args.lead.now)
    (option_map (λ text. text.items) c.in-Ok-Some.field-0) c.read.result
    (subst (λ front. IsFront c.args.lead.now.margin c.args.lead.now.taken (option_map (λ text. text.items) front))
    c.in-Some.is c.in-Ok.ensures.text)
    (c.read_rest.ensures.goes (λ e. absurd (cc (sym c.in-Ok-Some.is ∙ e)))) (search rules)
    (ap (option_map (λ text. text.items)) c.in-Ok-Some.field-0-is) c.in-Ok-Some.ensures.rest
    (subst (λ text. IfOk c.read.result (λ list. list ≡ entries_of (outcome_of text))) c.deref.ensures.value
    c.read.ensures.list) c.read.ensures.few c.read.ensures.text c.read.ensures.memory

pub returns-in-Err-clause-reads : goal.returns-in-Err-clause-reads
returns-in-Err-clause-reads g c =
    read_failed (g.F.Files.seen c.args.files.now) (g.F.Files.seen c.read_rest.new.files) c.args.source.now
    c.read_rest.new.source (lead_of c.args.lead.now) c.in-Err.fault c.read_rest.ensures.told c.read_rest.ensures.others
    (λ other. c.read_rest.ensures.goes (λ e. other (cc (sym c.in-Err.is ∙ e)))) c.in-Err.ensures.fault
