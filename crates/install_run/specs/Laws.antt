-- What holds of every history. This is statement; the words are those of Histories, Marks, Journals, Values, Passing,
-- Verified and Deliverable, and of Legal, Fitting, Starting, Since, Following, Sealed, Synchronising and Exchanged.
use Rattle.std.specs.Prelude.{◌≡◌, ℕ, take, slice_get, Some}
use Rattle.script_text.specs.declared.node_row.NodeRow.{NodeRow}
use Rattle.install_run.specs.Deliverable.{ActsOnDeliverable}
use Rattle.install_run.specs.Exchanged.{EndsTellTheSame}
use Rattle.install_run.specs.First.{first_world}
use Rattle.install_run.specs.Following.{CountsOn, AsksOnce}
use Rattle.install_run.specs.Histories.{DrawsOnce}
use Rattle.install_run.specs.Journals.{ExceedsMarks, JournalRises}
use Rattle.install_run.specs.Fitting.{told_by_all, WorldFits}
use Rattle.install_run.specs.Legal.{first_told, IsLegal}
use Rattle.install_run.specs.Marks.{NoMarkFalls}
use Rattle.install_run.specs.Origin.{IsRunOf, events_of}
use Rattle.install_run.specs.Machine.{WorldAt}
use Rattle.install_run.specs.Runs.{world_after}
use Rattle.install_run.specs.Sealed.{all_sealed, HaveBlocksOfTheirOwn}
use Rattle.install_run.specs.Since.{HasNumbersSince}
use Rattle.install_run.specs.Starting.{NoneArms, AllStartAsKept}
use Rattle.install_run.specs.Synchronising.{Synchronises}
use Rattle.install_run.specs.Values.{ObjectsByJournal}
use Rattle.install_run.specs.Verified.{ActsOnVerified}
use Rattle.install_run.specs.World.{WorldState}

-- World and history are what the events make of the script.
abbrev pub ComesOfScript : WorldState → Type 0
ComesOfScript w = IsRunOf w.rows w.nodes w.world w.history

-- No node draws a number twice.
abbrev pub NoNumberTwice : WorldState → Type 0
NoNumberTwice w = (place : ℕ) (row : NodeRow) → slice_get w.nodes place ≡ Some row → DrawsOnce place row w.history

-- No mark of a node falls, through cuts, faults and starts.
abbrev pub KeepsMarks : WorldState → Type 0
KeepsMarks w =
    (place : ℕ) (row : NodeRow) → slice_get w.nodes place ≡ Some row
    → NoMarkFalls place (events_of w.history) (first_world w.rows w.nodes)

-- What a node acts on is above the mark of its lane before that step,
abbrev pub ActsAbove : WorldState → Type 0
ActsAbove w =
    (place : ℕ) (row : NodeRow) → slice_get w.nodes place ≡ Some row
    → ExceedsMarks place (events_of w.history) (first_world w.rows w.nodes)

-- and so the numbers of its journal rise on each lane.
abbrev pub JournalsRise : WorldState → Type 0
JournalsRise w = (place : ℕ) (row : NodeRow) → slice_get w.nodes place ≡ Some row → JournalRises place w.history

-- The objects of a node that runs change exactly by its journal.
abbrev pub ObjectsFollow : WorldState → Type 0
ObjectsFollow w =
    (place : ℕ) (row : NodeRow) → slice_get w.nodes place ≡ Some row → ObjectsByJournal place row w.world w.history

-- the installation after so many steps of its history: after all of them it is as it is now
abbrev pub state_after : ℕ → WorldState → WorldAt
state_after steps w = world_after (take steps (events_of w.history)) (first_world w.rows w.nodes)

-- In each state that it went through and in that of now, whatever comes next, each node acts on what passes its checks.
abbrev pub ActsOnAllDeliverable : WorldState → Type 0
ActsOnAllDeliverable w = (steps node : ℕ) → ActsOnDeliverable (state_after steps w) node

pub record KeepsLaws (w : WorldState) : Type 0 where
  pub comes : ComesOfScript w
  pub draws : NoNumberTwice w
  pub marks : KeepsMarks w
  pub acts : ActsAbove w
  pub journals : JournalsRise w
  pub objects : ObjectsFollow w
  -- in each state of an installation, so in each of this history
  pub verifies : (at : WorldAt) → ActsOnVerified at
  pub delivers : ActsOnAllDeliverable w

-- ---- by the rules

-- Each step of the history is allowed after those before it.
abbrev pub OnlyAllowed : WorldState → Type 0
OnlyAllowed w = IsLegal w.rows w.nodes w.history

-- What the history tells is what there is, and the memories fit it.
abbrev pub TellsWhatIs : WorldState → Type 0
TellsWhatIs w = WorldFits (told_by_all w.history (first_told w.rows w.nodes)) w.world

-- Where no cut and no fault is ever armed each start tells what was kept and reserved.
abbrev pub StartsGoOn : WorldState → Type 0
StartsGoOn w = NoneArms w.history → AllStartAsKept w.history (first_told w.rows w.nodes)

-- Each node that runs has the numbers of its steps since its last start.
abbrev pub NumbersFollow : WorldState → Type 0
NumbersFollow w =
    (place : ℕ) (row : NodeRow) → slice_get w.nodes place ≡ Some row
    → HasNumbersSince place row (events_of w.history) (first_world w.rows w.nodes) w.world

-- The next number and the reservation of a node that runs are those that its outcomes tell,
abbrev pub CountsFollow : WorldState → Type 0
CountsFollow w =
    (place : ℕ) (row : NodeRow) → slice_get w.nodes place ≡ Some row → CountsOn place row w.world w.history

-- and so is its open challenge.
abbrev pub ChallengesFollow : WorldState → Type 0
ChallengesFollow w =
    (place : ℕ) (row : NodeRow) → slice_get w.nodes place ≡ Some row → AsksOnce place w.world w.history

-- No two telegrams that its nodes sealed have one counter block.
abbrev pub SealsApart : WorldState → Type 0
SealsApart w =
    HaveBlocksOfTheirOwn w.nodes w.history (all_sealed (events_of w.history) (first_world w.rows w.nodes))

-- A node that takes an answer goes on above the kept number that it tells, and one that sends an answer above its own
-- number; a reply tells the requester's marks.
abbrev pub SynchronisesAll : WorldState → Type 0
SynchronisesAll w =
    (place : ℕ) (row : NodeRow) → slice_get w.nodes place ≡ Some row
    → Synchronises place row (events_of w.history) (first_world w.rows w.nodes) w.history

-- An answer that is taken tells at the requester what the responder sealed into it.
abbrev pub EndsAgree : WorldState → Type 0
EndsAgree w = EndsTellTheSame (events_of w.history) (first_world w.rows w.nodes)

-- synchronisations, at each node and between both
pub record Synchronised (w : WorldState) : Type 0 where
  pub each : SynchronisesAll w
  pub ends : EndsAgree w

-- It goes by the rules: each step is allowed after those before it, by their outcomes alone; what there is follows from
-- its steps; and no two telegrams of its nodes have one counter block.
pub record GoesByRules (w : WorldState) : Type 0 where
  pub legal : OnlyAllowed w
  pub fits : TellsWhatIs w
  pub starts : StartsGoOn w
  pub numbers : NumbersFollow w
  pub counts : CountsFollow w
  pub asks : ChallengesFollow w
  pub seals : SealsApart w
  pub synchronises : Synchronised w
