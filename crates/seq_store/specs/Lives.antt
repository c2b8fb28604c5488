-- Statement: the life of one memory: starts, draws, raises and stops in any order, and the numbers that are drawn in
-- it.
use Rattle.std.specs.Prelude.{◌≡◌, ℕ, ◌+◌, ◌^◌, ◌<◌, ◌≤◌, max, List, [], ◌∷◌, Option, Some, None}
use Rattle.nvm_model.specs.Write.{written, Reached}
use Rattle.seq_store.specs.Laws.{Ready}
use Rattle.seq_store.specs.Layout.{most_lanes}
use Rattle.seq_store.specs.Runs.{Numbers, numbers_in, Raise, Mark, IsAbove, after_raises, writes_of, draw_raises}

-- a store that runs: the numbers of its memory, and its next number
pub record Running : Type 0 where
  pub numbers : Numbers
  pub next : ℕ

-- the store that a start makes of these numbers
abbrev pub started : Numbers → Running
started numbers = record { numbers = numbers; next = numbers.reserved + 1 }

pub data Call : Type 0 where
  -- this number is drawn
  Draw : (number : ℕ) → Call
  RaiseMark : (lane number : ℕ) → Call
  RaiseNext : (above : ℕ) → Call

-- the calls that may be made of a store
abbrev pub IsCall : Call → Running → Type 0
IsCall (Draw number) s = (number ≡ s.next) × (number < 2 ^ 48)
IsCall (RaiseMark lane number) s = IsAbove (Mark lane number) s.numbers
IsCall (RaiseNext above) s = above < 2 ^ 48

-- what a call raises in the memory
abbrev pub call_raises : Call → Running → List Raise
call_raises (Draw number) s = draw_raises s.numbers.reserved s.next
call_raises (RaiseMark lane number) s = Mark lane number ∷ []
call_raises (RaiseNext above) s = []

abbrev pub next_after : Call → ℕ → ℕ
next_after (Draw number) next = next + 1
next_after (RaiseMark lane number) next = next
next_after (RaiseNext above) next = max next (above + 1)

-- the store after a call that was answered Ok
abbrev pub after_call : Call → Running → Running
after_call call s = record { numbers = after_raises (call_raises call s) s.numbers; next = next_after call s.next }

pub data Event : Type 0 where
  -- a store is started over the memory as it is
  Start : Event
  -- a call is answered Ok
  Made : (call : Call) → Event
  -- Power is lost or a write fails within a call, and the memory has these octets then. A stop between two calls is one
  -- within a call that writes nothing.
  Stopped : (call : Call) (image : List ℕ) → Event

-- These events may come one after another, from these octets on, with this store, if one runs.
abbrev pub AreEvents : ℕ → List ℕ → Option Running → List Event → Type 0
AreEvents lanes octets store [] = Unit {0}
AreEvents lanes octets store (Start ∷ events) = AreEvents lanes octets (Some (started (numbers_in lanes octets))) events
AreEvents lanes octets None (Made call ∷ events) = ⊥
AreEvents lanes octets None (Stopped call image ∷ events) = ⊥
AreEvents lanes octets (Some s) (Made call ∷ events) =
    IsCall call s × AreEvents lanes (written (writes_of lanes (call_raises call s) octets) octets)
    (Some (after_call call s)) events
-- The memory is left as at any moment of the call's writes.
AreEvents lanes octets (Some s) (Stopped call image ∷ events) =
    IsCall call s × Reached (writes_of lanes (call_raises call s) octets) octets image
    × AreEvents lanes image None events

-- the numbers that were drawn, in their order
abbrev pub numbers_drawn : List Event → List ℕ
numbers_drawn [] = []
numbers_drawn (Start ∷ events) = numbers_drawn events
numbers_drawn (Made (Draw number) ∷ events) = number ∷ numbers_drawn events
numbers_drawn (Made (RaiseMark lane number) ∷ events) = numbers_drawn events
numbers_drawn (Made (RaiseNext above) ∷ events) = numbers_drawn events
numbers_drawn (Stopped call image ∷ events) = numbers_drawn events

-- Each is at least this one, and above all that come before it.
abbrev pub AscendFrom : ℕ → List ℕ → Type 0
AscendFrom least [] = Unit {0}
AscendFrom least (n ∷ ns) = (least ≤ n) × AscendFrom (n + 1) ns

-- a memory that is ready, and events that may come from then on
pub record IsLife (lanes : ℕ) (octets : List ℕ) (events : List Event) : Type 0 where
  pub lanes_fit : lanes ≤ most_lanes
  pub ready : Ready lanes octets
  pub each : AreEvents lanes octets None events

-- Numbers that are drawn in one life ascend strictly, from the one behind the last that was reserved at its beginning.
abbrev pub NeverTwice : ℕ → List ℕ → List Event → Type 0
NeverTwice lanes octets events =
    IsLife lanes octets events → AscendFrom ((numbers_in lanes octets).reserved + 1) (numbers_drawn events)
