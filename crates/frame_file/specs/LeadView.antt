-- What a contract sees of the front of a file: plumbing for proofs.
use Rattle.frame_file.specs.Lead.{LeadState}
use Rattle.frame_file.specs.declared.lead.Lead.{Lead}

abbrev pub lead_of : Lead → LeadState
lead_of lead = record {
  margin = lead.margin;
  taken = lead.taken;
  lines = lead.lines;
  part = lead.part;
  refused = lead.refused;
}
