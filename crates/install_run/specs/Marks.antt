-- The marks of the nodes of an installation, from step to step. This is statement.
use Rattle.std.specs.Prelude.{ℕ, List, [], ◌∷◌, length, Option, Some, None}
use Rattle.seq_store.specs.Runs.{numbers_in}
use Rattle.node_core.specs.Standing.{Standing}
use Rattle.script_text.specs.declared.event.Event.{Event}
use Rattle.install_run.specs.Histories.{NoneFalls}
use Rattle.install_run.specs.Machine.{WorldAt, node_in}
use Rattle.install_run.specs.Runs.{after}
use Rattle.install_run.specs.Turn.{NodeAt}

-- the marks of a node: its own while it runs, and else those that its memory restores
abbrev pub marks_by : NodeAt → Option Standing → List ℕ
marks_by n (Some s) = s.numbers.marks
marks_by n None = (numbers_in (length n.config.lanes) n.octets).marks

abbrev pub marks_at : WorldAt → ℕ → List ℕ
marks_at w place = let n = node_in w place in marks_by n n.standing

-- No mark of the node at this place falls from one of these steps to the next.
abbrev pub NoMarkFalls : ℕ → List Event → WorldAt → Type 0
NoMarkFalls place [] w = Unit {0}
NoMarkFalls place (e ∷ events) w =
    NoneFalls (marks_at w place) (marks_at (after e w) place) × NoMarkFalls place events (after e w)
