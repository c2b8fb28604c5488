use Rattle.std.proofs.Common.{rules, refl}
use Rattle.frame_file.specs.LeadView.{lead_of}
use Rattle.frame_file.proofs.ListedLemmas.{listed_feed, listed_long}
use Rattle.frame_file.proofs.lead.Lead.take_listed.Goals as goal

pub returns-then-octet-eq10-clause-takes : goal.returns-then-octet-eq10-clause-takes
returns-then-octet-eq10-clause-takes c =
    listed_feed (lead_of c.args.self.now) _ c.args.octet c.take_line-said.new.self c.line.result.now
    c.take_line-said.result c.said_in.result (search rules) (search rules) c.line.ensures.line
    c.take_line-said.ensures.line c.said_in.ensures.said c.said_in.ensures.text refl c.clear.ensures.empty refl

pub returns-then-is_full-clause-takes : goal.returns-then-is_full-clause-takes
returns-then-is_full-clause-takes c =
    listed_long (lead_of c.args.self.now) c.args.octet c.args.octets.now (search rules) (search rules) (search rules)
