-- Statement: what raises in turn keep of the numbers, over every image that restores some.
use Rattle.std.specs.Prelude.{◌≡◌, ◌≤◌, ℕ, List, length, None}
use Rattle.nvm_model.specs.Plan.{Struck, strike}
use Rattle.nvm_model.specs.Write.{written, Reached}
use Rattle.nvm_model.specs.declared.plan.Plan.{Plan}
use Rattle.seq_store.specs.Laws.{Ready}
use Rattle.seq_store.specs.Layout.{most_lanes}
use Rattle.seq_store.specs.Runs.{Numbers, RestoresNumbers, numbers_in, Raise, AreAbove, after_raises, writes_of, RestoresSome}

-- raises that may be made in turn: the image restores the numbers, and each raise is to a greater one
pub record MayRun (numbers : Numbers) (raises : List Raise) (image : List ℕ) : Type 0 where
  pub lanes_fit : length numbers.marks ≤ most_lanes
  pub restores : RestoresNumbers numbers image
  pub above : AreAbove raises numbers

-- what a plan makes of an image by these raises
abbrev pub struck_by_raises : Numbers → List Raise → Plan → List ℕ → Struck
struck_by_raises numbers raises plan image = strike (writes_of (length numbers.marks) raises image) plan image

-- The numbers are kept wherever the writes end.
pub record KeepsNumbers (numbers : Numbers) (raises : List Raise) (image : List ℕ) : Type 0 where
  -- at each moment the image restores the numbers that some of the raises leave, in their order,
  pub torn : (c : List ℕ) → Reached (writes_of (length numbers.marks) raises image) image c
      → RestoresSome raises numbers c
  -- after all of them the last,
  pub whole : RestoresNumbers (after_raises raises numbers)
      (written (writes_of (length numbers.marks) raises image) image)
  -- and so it is where a cut or a fault is armed.
  pub struck : (plan : Plan) → RestoresSome raises numbers (struck_by_raises numbers raises plan image).octets
  pub not_struck : (plan : Plan) → (struck_by_raises numbers raises plan image).answer ≡ None
      → RestoresNumbers (after_raises raises numbers) (struck_by_raises numbers raises plan image).octets

-- An image has the numbers that it restores, and one that is ready restores those that it has.
pub record HasItsNumbers (image : List ℕ) : Type 0 where
  pub those : (numbers : Numbers) → RestoresNumbers numbers image → numbers_in (length numbers.marks) image ≡ numbers
  pub ready : (lanes : ℕ) → Ready lanes image → RestoresNumbers (numbers_in lanes image) image
  pub lanes : (lanes : ℕ) → length (numbers_in lanes image).marks ≡ lanes
