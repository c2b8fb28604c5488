-- What a history tells is what there is, and the memories fit it. This is statement.
use Rattle.std.specs.Prelude.{◌≡◌, ℕ, ◌<◌, List, [], ◌∷◌, length, false, Some, None}
use Rattle.std.specs.Option.{is_some}
use Rattle.seq_store.specs.Runs.{RestoresNumbers, RestoresSome}
use Rattle.node_core.specs.Standing.{Standing}
use Rattle.step_text.specs.declared.outcome.Step.{Step}
use Rattle.install_run.specs.Legal.{ToldNode, Told, told_in, told_after}
use Rattle.install_run.specs.Machine.{WorldAt, node_in}
use Rattle.install_run.specs.Turn.{NodeAt}

-- what is told after these steps
abbrev pub told_by_all : List Step → Told → Told
told_by_all [] told = told
told_by_all (step ∷ steps) told = told_by_all steps (told_after step told)

-- A node is as it is told. The memory of one that runs restores its numbers, that of another what some front of the
-- raises of its last stop, or none of them, leaves of the numbers that it had then. A cut is armed exactly where that
-- is told, and no fault that is not told.
pub record NodeFits (t : ToldNode) (n : NodeAt) : Type 0 where
  pub standing : n.standing ≡ t.standing
  pub runs : (s : Standing) → t.standing ≡ Some s → RestoresNumbers s.numbers n.octets
  pub rests : t.standing ≡ None → RestoresSome t.raises t.stopped n.octets
  pub cut : is_some n.plan.cut ≡ t.cut
  pub fault : t.fault ≡ false → n.plan.fault ≡ None

-- So is each node, and the telegrams on the air are those that are told.
pub record WorldFits (told : Told) (w : WorldAt) : Type 0 where
  pub size : length told.nodes ≡ length w.nodes
  pub each : (place : ℕ) → place < length w.nodes → NodeFits (told_in told place) (node_in w place)
  pub air : told.air ≡ w.air
