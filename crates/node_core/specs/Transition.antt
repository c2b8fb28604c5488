-- Statement: what a call of a node does, with no memory in it.
use Rattle.std.specs.Prelude.{List, [], ◌++◌, ℕ, Option, None}
use Rattle.seq_store.specs.Runs.{Raise}
use Rattle.node_core.specs.Standing.{Standing}

-- The outcome, the raises of its memory in their order, the frame that it hands out, and what the node is then.
pub record Transition (A : Type 0) : Type 0 where
  pub outcome : A
  pub raises : List Raise
  pub frame : Option (List ℕ)
  pub after : Standing

-- nothing changes
abbrev pub quiet : {A : Type 0} → Standing → A → Transition A
quiet s outcome = record { outcome = outcome; raises = []; frame = None; after = s }

-- the same, told in other words
abbrev pub told_as : {A B : Type 0} → (A → B) → Transition A → Transition B
told_as f t = record { outcome = f t.outcome; raises = t.raises; frame = t.frame; after = t.after }

-- the same, with these raises first
abbrev pub behind : {A : Type 0} → List Raise → Transition A → Transition A
behind raises t = record t { raises = raises ++ t.raises }
