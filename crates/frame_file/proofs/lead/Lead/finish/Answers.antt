use Rattle.std.proofs.Common.{rules, ◌+◌, refl, sym, ap, subst, ◌∙◌}
use Rattle.std.specs.Prelude.{IfErr}
use Rattle.frame_file.specs.Lists.{IsOfText}
use Rattle.frame_file.specs.Records.{record_of}
use Rattle.frame_file.specs.Lead.{LeadState, EndsFront}
use Rattle.frame_file.specs.LeadView.{lead_of}
use Rattle.frame_file.proofs.EndLemmas.{ends_refused, ends_nothing, ends_line}
use Rattle.frame_file.proofs.lead.Lead.finish.Goals as goal

pub returns-in-Some : goal.returns-in-Some
returns-in-Some c = record {
  ends = λ front is. ends_refused (lead_of c.args.self.now) front c.in-Some.fault is c.in-Some.is;
}

pub returns-then-is_empty : goal.returns-then-is_empty
returns-then-is_empty c = record {
  ends = λ front is. ends_nothing (lead_of c.args.self.now) front is c.in_default.is (search rules);
}

pub returns : goal.returns
returns c = record {
  ends = λ front is.
      let new : LeadState = record {
        margin = c.args.self.now.margin;
        taken = c.args.self.now.taken;
        lines = c.args.self.now.lines + 1;
        part = c.args.self.now.part;
        refused = c.args.self.now.refused;
      } in
      subst (EndsFront new front c.take_line.new.self) (sym c.said_in.ensures.said)
      (ends_line (lead_of c.args.self.now) new front c.take_line.new.self c.take_line.result is c.in_default.is
      (search rules) (ap record_of (sym c.bytes.ensures.octets) ∙ c.take_line.ensures.line) refl
      (subst (λ shown. IfErr shown IsOfText) c.said_in.ensures.said c.said_in.ensures.text));
}
