use Rattle.std.proofs.Common.{◌≡◌, ◌≤◌, length}
use Rattle.tag_text.specs.Document.{outcome_of}
use Rattle.frame_file.specs.Logs.{most_logged, entries_of}
use Rattle.frame_file.specs.LogTurns.{with_records}
use Rattle.frame_file.proofs.log.Log.read.Given as goal

-- the records so far and those that are left are all
abbrev pub invariant-telegrams : goal.invariant-telegrams
invariant-telegrams l = record {
  list : entries_of (outcome_of l.text) ≡ with_records l.telegrams.items (entries_of l.reader);
  few : length (entries_of (outcome_of l.text)).records ≤ most_logged;
}

abbrev pub decreases-telegrams : goal.decreases-telegrams
decreases-telegrams l = length l.reader.tags
