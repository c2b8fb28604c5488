-- All laws of a world, by what holds of its parts.
use Rattle.std.proofs.Common.{◌≡◌, List, subst}
use Rattle.key_tables.specs.declared.types.Row.{Row}
use Rattle.script_text.specs.declared.node_row.NodeRow.{NodeRow}
use Rattle.step_text.specs.declared.outcome.Step.{Step}
use Rattle.install_run.specs.Laws.{GoesByRules, KeepsLaws}
use Rattle.install_run.specs.Machine.{TelegramAt}
use Rattle.install_run.specs.Origin.{IsRun}
use Rattle.install_run.specs.Place.{PlaceAt, world_in}
use Rattle.install_run.specs.World.{WorldState, world_state}
use Rattle.install_run.proofs.Rising.{draws_once}
use Rattle.install_run.proofs.Marking.{marks_kept}
use Rattle.install_run.proofs.Journalling.{exceeds_marks, journal_rises}
use Rattle.install_run.proofs.Valuing.{by_journal}
use Rattle.install_run.proofs.Counting.{numbers_since}
use Rattle.install_run.proofs.Legality.{legal, fits}
use Rattle.install_run.proofs.Calming.{starts_as_kept}
use Rattle.install_run.proofs.Following.{counts_on, asks_once}
use Rattle.install_run.proofs.Synchronised.{synchronises}
use Rattle.install_run.proofs.Exchanged.{ends_agree}
use Rattle.install_run.proofs.Verifying.{acts_on_verified}
use Rattle.install_run.proofs.Delivering.{acts_on_all_deliverable}
use Rattle.install_run.proofs.Sealing.{blocks_of_their_own}

pub keeps_laws : (rows : List Row) (nodes : List NodeRow) (places : List PlaceAt) (air : List TelegramAt)
    (history : List Step) (w : WorldState) → IsRun rows nodes places air history
    → world_state rows nodes places air history ≡ w → KeepsLaws w
keeps_laws rows nodes places air history w run is = subst KeepsLaws is (record {
  comes = run.run;
  draws = λ place row. draws_once rows nodes (world_in places air) history place row run.run run.held;
  marks = λ place row. marks_kept rows nodes (world_in places air) history place row run.run run.held;
  acts = λ place row. exceeds_marks rows nodes (world_in places air) history place row run.run run.held;
  journals = λ place row. journal_rises rows nodes (world_in places air) history place row run.run run.held;
  objects = λ place row. by_journal rows nodes (world_in places air) history place row run.run;
  verifies = acts_on_verified;
  delivers = λ steps node.
      acts_on_all_deliverable rows nodes (world_in places air) history steps node run.run run.held;
})

pub goes_by_rules : (rows : List Row) (nodes : List NodeRow) (places : List PlaceAt) (air : List TelegramAt)
    (history : List Step) (w : WorldState) → IsRun rows nodes places air history
    → world_state rows nodes places air history ≡ w → GoesByRules w
goes_by_rules rows nodes places air history w run is =
    let allowed = legal rows nodes (world_in places air) history run.run run.held in
    subst GoesByRules is (record {
      legal = allowed;
      fits = fits rows nodes (world_in places air) history run.run run.held;
      starts = starts_as_kept rows nodes history allowed;
      numbers = λ place row at.
          numbers_since rows nodes (world_in places air) history place row run.run run.held at;
      counts = λ place row. counts_on rows nodes (world_in places air) history place row run.run run.held;
      asks = λ place row. asks_once rows nodes (world_in places air) history place row run.run run.held;
      seals = blocks_of_their_own rows nodes (world_in places air) history run.run run.held;
      synchronises = record {
        each = λ place row at.
            synchronises rows nodes (world_in places air) history place row run.run run.held at;
        ends = ends_agree rows nodes (world_in places air) history run.run run.held run.ranges;
      };
    })
