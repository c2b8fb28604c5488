-- The end of a report, and a summary, by the places of the nodes, as the code has them. This is plumbing for proofs.
use Rattle.std.specs.Prelude.{ℕ, List, ◌++◌, length, Bool}
use Rattle.std.specs.Option.{is_some}
use Rattle.std.specs.List.{zip, flat_map}
use Rattle.seq_store.specs.Runs.{Numbers, numbers_in}
use Rattle.step_text.specs.Text.{node_text, all_kept_text, image_text, summary_node_text}
use Rattle.step_text.specs.declared.end.NodeEnd.{NodeEnd}
use Rattle.step_text.specs.declared.outcome.StepOutcome.{StepOutcome}
use Rattle.script_text.specs.declared.node_row.NodeRow.{NodeRow}
use Rattle.install_run.specs.Turn.{NodeAt}
use Rattle.install_run.specs.Place.{PlaceAt}
use Rattle.install_run.specs.Report.{objects_text}
use Rattle.install_run.specs.Summary.{is_acted, is_answered, is_synced, is_refused, is_ignored, is_gone, is_off, is_cut}
use Rattle.install_run.specs.declared.world.summary.Kind.{Kind}
use Rattle.install_run.specs.declared.world.summary.Kind.TheVariants as kind

-- what the memory of a node restores
abbrev pub numbers_of : NodeAt → Numbers
numbers_of n = numbers_in (length n.config.lanes) n.octets

abbrev pub first_of : NodeRow → PlaceAt → NodeEnd
first_of row p = record {
  name = row.name;
  running = is_some p.node.standing;
  journal = length p.journal;
  reserved = (numbers_of p.node).reserved;
}

abbrev pub kept_of : NodeAt → List ℕ
kept_of n = all_kept_text n.config.lanes (numbers_of n).marks

abbrev pub place_end : NodeRow × PlaceAt → List ℕ
place_end (row, p) =
    node_text (first_of row p) ++ (objects_text p.node.standing ++ (kept_of p.node ++ image_text p.node.octets))

abbrev pub ends_of : List NodeRow → List PlaceAt → List ℕ
ends_of rows places = flat_map place_end (zip rows places)

-- ---- a summary

abbrev pub is_kind : Kind → StepOutcome → Bool
is_kind kind.Acted = is_acted
is_kind kind.Answered = is_answered
is_kind kind.Synced = is_synced
is_kind kind.Refused = is_refused
is_kind kind.Ignored = is_ignored
is_kind kind.Gone = is_gone
is_kind kind.Off = is_off
is_kind kind.Cut = is_cut

abbrev pub place_summary : NodeRow × PlaceAt → List ℕ
place_summary (row, p) = summary_node_text row.name (length p.journal) (numbers_of p.node).reserved

abbrev pub summaries_of : List NodeRow → List PlaceAt → List ℕ
summaries_of rows places = flat_map place_summary (zip rows places)
