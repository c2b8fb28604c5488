use Rattle.text_lines.specs.Reading.{to_come}
use Rattle.frame_file.specs.Lead.{FrontSoFar}
use Rattle.frame_file.specs.LeadView.{lead_of}
use Rattle.frame_file.proofs.lead.Lead.read.Given as goal

abbrev pub invariant-octets : goal.invariant-octets
invariant-octets g l =
    FrontSoFar (g.F.Files.seen l.fn.files) (g.F.Files.seen l.files) l.source (lead_of l.self)

abbrev pub decreases-octets : goal.decreases-octets
decreases-octets g l = to_come (g.F.Files.seen l.files) l.source
