-- The summary of a run: how often each outcome came, and what the memory of each node restores. This is statement.
use Rattle.std.specs.Prelude.{ℕ, List, ◌++◌, length, Bool, true, false}
use Rattle.std.specs.List.{zip, filter, flat_map, enumerate_from}
use Rattle.seq_store.specs.Runs.{numbers_in}
use Rattle.script_text.specs.declared.node_row.NodeRow.{NodeRow}
use Rattle.step_text.specs.declared.outcome.Step.{Step}
use Rattle.step_text.specs.declared.outcome.StepOutcome.{StepOutcome}
use Rattle.step_text.specs.declared.outcome.StepOutcome.TheVariants as outcome
use Rattle.step_text.specs.declared.summary.Tally.{Tally}
use Rattle.step_text.specs.Text.{made_text, tally_text, summary_node_text}
use Rattle.install_run.specs.Turn.{NodeAt}
use Rattle.install_run.specs.Machine.{WorldAt}
use Rattle.install_run.specs.Runs.{journal_of}

-- ---- outcomes

abbrev pub is_acted : StepOutcome → Bool
is_acted (outcome.Acted number lane act reply) = true
is_acted _ = false

abbrev pub is_answered : StepOutcome → Bool
is_answered (outcome.Answered challenge reply) = true
is_answered _ = false

abbrev pub is_synced : StepOutcome → Bool
is_synced (outcome.Synced number kept next) = true
is_synced _ = false

-- with whatever verdict
abbrev pub is_refused : StepOutcome → Bool
is_refused (outcome.Refused verdict) = true
is_refused _ = false

abbrev pub is_ignored : StepOutcome → Bool
is_ignored outcome.Ignored = true
is_ignored _ = false

abbrev pub is_gone : StepOutcome → Bool
is_gone outcome.Gone = true
is_gone _ = false

-- the node was not running; one that is switched off now is Down
abbrev pub is_off : StepOutcome → Bool
is_off outcome.Off = true
is_off _ = false

abbrev pub is_cut : StepOutcome → Bool
is_cut outcome.Cut = true
is_cut _ = false

-- ---- counts

-- how many steps have such an outcome
abbrev pub count_of : (StepOutcome → Bool) → List Step → ℕ
count_of is_such history = length (filter (λ step. is_such step.outcome) history)

abbrev pub tally_of : WorldAt → List Step → Tally
tally_of w history = record {
  telegrams = length w.air;
  acted = count_of is_acted history;
  answered = count_of is_answered history;
  synced = count_of is_synced history;
  refused = count_of is_refused history;
  ignored = count_of is_ignored history;
  gone = count_of is_gone history;
  off = count_of is_off history;
  cut = count_of is_cut history;
}

-- ---- the text

-- a node of a script at its place, as it is after these steps
abbrev pub node_summary : List Step → ℕ × (NodeRow × NodeAt) → List ℕ
node_summary history (place, (row, n)) =
    let numbers = numbers_in (length n.config.lanes) n.octets in
    summary_node_text row.name (length (journal_of place history)) numbers.reserved

-- all nodes, in their order
abbrev pub summaries_text : List NodeRow → WorldAt → List Step → List ℕ
summaries_text nodes w history = flat_map (node_summary history) (enumerate_from 0 (zip nodes w.nodes))

-- the summary of the script of this number, which was made with so many events
abbrev pub summary_text : ℕ → ℕ → List NodeRow → WorldAt → List Step → List ℕ
summary_text number count nodes w history =
    (made_text number count ++ tally_text (tally_of w history)) ++ summaries_text nodes w history
