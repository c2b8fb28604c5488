use Rattle.std.proofs.Common.{rules, ◌≡◌, Ok, sym, subst}
use Rattle.knx_base.specs.Files.{Seen}
use Rattle.frame_file.specs.declared.lead.LeadStep.TheVariants as shown
use Rattle.frame_file.specs.Lead.{ReadsFront}
use Rattle.frame_file.specs.LeadView.{lead_of}
use Rattle.frame_file.specs.Reader.{IsAtStage, Steps}
use Rattle.frame_file.specs.State.{state_of}
use Rattle.frame_file.proofs.BeginLemmas.{list_begun, log_begun}
use Rattle.frame_file.proofs.reader.Reader.begin.Goals as goal

pub returns-in-Ok-Log-clause-steps : goal.returns-in-Ok-Log-clause-steps
returns-in-Ok-Log-clause-steps g c =
    let seen : Seen = g.F.Files.seen c.args.files.now in
    let mid : Seen = g.F.Files.seen c.read-shown.new.files in
    let later : Seen = g.F.Files.seen c.begin_log.new.files in
    let is_log : c.read-shown.result ≡ Ok shown.Log = search rules in
    log_begun seen mid later c.read-shown.new.source c.read-shown.new.octets (lead_of c.read-shown.new.self)
    (state_of c.args.self.now) (state_of c.begin_log.new.self) c.begin_log.result c.requires.at c.requires.start
    c.begin_log.ensures.same.0 c.begin_log.ensures.same.1
    (subst (ReadsFront seen mid c.read-shown.new.source (lead_of c.read-shown.new.self) c.read-shown.new.octets)
    is_log c.read-shown.ensures.reads)
    c.begin_log.ensures.log c.begin_log.ensures.reads

pub returns-clause-steps : goal.returns-clause-steps
returns-clause-steps g c =
    let seen : Seen = g.F.Files.seen c.args.files.now in
    let later : Seen = g.F.Files.seen c.read-shown.new.files in
    let old = state_of c.args.self.now in
    let new = state_of c.begin_list.new.self in
    let first = subst (λ s. IsAtStage seen old s) c.requires.start c.requires.at.stage in
    subst (Steps seen later old new) (sym c.begin_list.ensures.shown)
    (list_begun seen later c.read-shown.new.source c.read-shown.new.octets (lead_of c.read-shown.new.self) old new
    c.read-shown.result (record {
      current = c.requires.at.current;
      last = c.requires.at.last;
      start = c.requires.start;
      given = first.0;
      nothing = first.1;
      stage = c.begin_list.ensures.stage;
      lines = c.begin_list.ensures.lines;
      held = c.begin_list.ensures.held;
      told = c.read-shown.ensures.told;
      others = c.read-shown.ensures.others;
    }) c.begin_list.ensures.given c.begin_list.ensures.entry c.begin_list.ensures.list c.read-shown.ensures.reads)
