use Rattle.std.proofs.Common.{◌≡◌, ◌≤◌, length}
use Rattle.frame_file.specs.Logs.{entries_of}
use Rattle.frame_file.proofs.log.next_telegram.Given as goal

-- no record was taken
abbrev pub invariant-tags : goal.invariant-tags
invariant-tags l = record {
  same : entries_of l.fn.reader ≡ entries_of l.reader;
  less : length l.reader.tags ≤ length l.fn.reader.tags;
}

abbrev pub decreases-tags : goal.decreases-tags
decreases-tags l = length l.reader.tags
