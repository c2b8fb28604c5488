use Rattle.std.proofs.Common.{◌+◌, List, ℕ, Some, refl, sym, ap, subst, ◌∙◌}
use Rattle.frame_file.specs.Lead.{LeadState}
use Rattle.frame_file.specs.LeadView.{lead_of}
use Rattle.frame_file.specs.declared.margin.Margin.{Margin}
use Rattle.frame_file.proofs.FrontLemmas.{Turn, turned, passed_taken, refused_taken, shown_taken}
use Rattle.frame_file.proofs.lead.Lead.take.Goals as goal

pub returns-then-is_over : goal.returns-then-is_over
returns-then-is_over c = record {
  takes = λ front is.
      let old : LeadState = lead_of c.args.self.now in
      let with_margin : Margin → LeadState = λ (m : Margin). record {
        margin = m;
        taken = old.taken + 1;
        lines = old.lines;
        part = old.part;
        refused = old.refused;
      } in
      shown_taken old (lead_of c.take_listed-shown.new.self) front c.take_listed-shown.new.octets c.args.octet
      c.take_listed-shown.result
      (turned old (with_margin c.after-self.result) (lead_of c.take_listed-shown.new.self) front
      c.take_listed-shown.new.octets c.args.octet c.take_listed-shown.result is
      (sym c.begins_log.ensures.begins ∙ c.if-begins_log.false)
      (ap with_margin c.after-self.ensures.after) c.take_listed-shown.ensures.takes c.take_listed-shown.ensures.same)
      (sym c.is_over.ensures.over ∙ c.if-is_over.true);
}

pub returns-in-Ok : goal.returns-in-Ok
returns-in-Ok c = record {
  takes = λ front is.
      let old : LeadState = lead_of c.args.self.now in
      let new : LeadState = lead_of c.take_listed-shown.new.self in
      let octets : List ℕ = c.take_listed-shown.new.octets in
      let with_margin : Margin → LeadState = λ (m : Margin). record {
        margin = m;
        taken = old.taken + 1;
        lines = old.lines;
        part = old.part;
        refused = old.refused;
      } in
      passed_taken old new front octets c.args.octet c.in-Ok.field-0
      (subst (Turn old new front c.args.octet octets) c.in-Ok.is
      (turned old (with_margin c.after-self.result) new front octets c.args.octet c.take_listed-shown.result is
      (sym c.begins_log.ensures.begins ∙ c.if-begins_log.false)
      (ap with_margin c.after-self.ensures.after) c.take_listed-shown.ensures.takes c.take_listed-shown.ensures.same))
      (sym c.is_over.ensures.over ∙ c.if-is_over.false);
}

pub returns-in-Err : goal.returns-in-Err
returns-in-Err c = record {
  takes = λ front is.
      let old : LeadState = lead_of c.args.self.now in
      let mid : LeadState = lead_of c.take_listed-shown.new.self in
      let octets : List ℕ = c.take_listed-shown.new.octets in
      let with_margin : Margin → LeadState = λ (m : Margin). record {
        margin = m;
        taken = old.taken + 1;
        lines = old.lines;
        part = old.part;
        refused = old.refused;
      } in
      refused_taken old mid (record {
        margin = mid.margin;
        taken = mid.taken;
        lines = mid.lines;
        part = mid.part;
        refused = Some c.in-Err.fault;
      }) front octets c.args.octet c.in-Err.fault
      (subst (Turn old mid front c.args.octet octets) c.in-Err.is
      (turned old (with_margin c.after-self.result) mid front octets c.args.octet c.take_listed-shown.result is
      (sym c.begins_log.ensures.begins ∙ c.if-begins_log.false)
      (ap with_margin c.after-self.ensures.after) c.take_listed-shown.ensures.takes c.take_listed-shown.ensures.same))
      refl;
}
