-- What a replay answers: how an installation goes through the events of a script. This is statement.
use Rattle.std.specs.Prelude.{◌≡◌, ℕ, List, codes, Option, Some, Result, Ok, Err}
use Rattle.script_text.specs.declared.fault.ScriptFault.{ScriptFault}
use Rattle.script_text.specs.Script.{ScriptState}
use Rattle.script_text.specs.Text.{script_of}
use Rattle.script_text.specs.Made.{made_script}
use Rattle.step_text.specs.declared.outcome.Step.{Step}
use Rattle.install_run.specs.First.{first_world}
use Rattle.install_run.specs.Laws.{GoesByRules, KeepsLaws}
use Rattle.install_run.specs.Machine.{WorldAt}
use Rattle.install_run.specs.Runs.{world_after, history_of}
use Rattle.install_run.specs.Report.{run_text}
use Rattle.install_run.specs.Summary.{summary_text}
use Rattle.install_run.specs.World.{WorldState}
use Rattle.knxsec_app.specs.declared.status.Status.TheVariants.{Done}
use Rattle.knxsec_app.specs.declared.whole_file.WholeFile.TheVariants.{Script}
use Rattle.knxsec_app.specs.Answer.{Answer, ◌>>=◌, answer_from}
use Rattle.knxsec_app.specs.Auditing.{within}
use Rattle.knxsec_app.specs.Refusing.{refused, script_reason}

-- ---- the script

abbrev pub script_told : Result ScriptState ScriptFault → Result ScriptState Answer
script_told (Ok script) = Ok script
script_told (Err fault) = Err (refused (codes "script") (script_reason fault))

-- the script of a file, or its refusal
abbrev pub script_in : List ℕ → Result ScriptState Answer
script_in octets = do
  text ← within Script octets
  script_told (script_of text)

-- ---- its one run

-- the installation behind all events
abbrev pub world_at_end : ScriptState → WorldAt
world_at_end s = world_after s.events (first_world s.rows s.nodes)

-- what came of each event
abbrev pub history_in : ScriptState → List Step
history_in s = history_of s.events (first_world s.rows s.nodes)

-- The world began as the script does, and went through all its events and through no others.
pub record HasPlayed (s : ScriptState) (w : WorldState) : Type 0 where
  pub rows : w.rows ≡ s.rows
  pub nodes : w.nodes ≡ s.nodes
  pub world : w.world ≡ world_at_end s
  pub history : w.history ≡ history_in s

-- Such a world is what was played. It keeps the laws of every history: no node seals twice under one number, what a
-- node acts on verified and was above each number kept on its lane, what is deliverable is acted on unless a cut or a
-- fault strikes, and objects change exactly by the journal. And each of its steps is allowed after those before it.
pub record IsPlayed (s : ScriptState) (played : Option WorldState) : Type 0 where
  pub world : WorldState
  pub is_world : played ≡ Some world
  pub has_played : HasPlayed s world
  pub keeps : KeepsLaws world
  pub rules : GoesByRules world

-- ---- answers

-- a line for each event, and how it ends
abbrev pub run_answer : ScriptState → Answer
run_answer s = record { report = run_text s.nodes (world_at_end s) (history_in s); status = Done }

abbrev pub replay_answer : List ℕ → Answer
replay_answer octets = answer_from (script_in octets) run_answer

-- what came of the made script, in figures
abbrev pub summary_of : ℕ → ℕ → ScriptState → Answer
summary_of number count s = record {
  report = summary_text number count s.nodes (world_at_end s) (history_in s);
  status = Done;
}

abbrev pub make_answer : ℕ → ℕ → Answer
make_answer number count = summary_of number count (made_script number count)
