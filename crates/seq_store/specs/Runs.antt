-- Statement: raises one after another, in the words of the numbers that a memory restores.
use Rattle.std.specs.Prelude.{◌≡◌, ◌⊎◌, ℕ, zero, suc, ◌+◌, ◌^◌, ◌<◌, ◌&&◌, nat_lt, List, [], ◌∷◌, ◌++◌, length, slice_index, slice_set, Option, None, unwrap_or, if◌then◌else◌}
use Rattle.nvm_model.specs.Nvm.{State, Makes, LeavesOnly}
use Rattle.nvm_model.specs.declared.fault.NvmFault.{NvmFault}
use Rattle.nvm_model.specs.Write.{Write, written}
use Rattle.seq_store.specs.Draws.{reservation_for}
use Rattle.seq_store.specs.Laws.{Restores, restore, restore_reserved}
use Rattle.seq_store.specs.Layout.{raise_writes}

-- what a memory restores: the last reserved number, and the mark of each lane
pub record Numbers : Type 0 where
  pub reserved : ℕ
  pub marks : List ℕ

abbrev pub RestoresNumbers : Numbers → List ℕ → Type 0
RestoresNumbers numbers image = Restores image numbers.reserved numbers.marks

-- the marks of so many lanes from this one on; a value that the image does not have is told as 0
abbrev pub marks_from : ℕ → List ℕ → ℕ → ℕ → List ℕ
marks_from lanes image lane zero = []
marks_from lanes image lane (suc n) = unwrap_or (restore lanes image lane) 0 ∷ marks_from lanes image (lane + 1) n

-- the numbers that an image of so many lanes restores
abbrev pub numbers_in : ℕ → List ℕ → Numbers
numbers_in lanes image =
    record { reserved = unwrap_or (restore_reserved lanes image) 0; marks = marks_from lanes image 0 lanes }

pub data Raise : Type 0 where
  -- the last reserved number becomes this one
  Reserve : (number : ℕ) → Raise
  -- the mark of this lane becomes this number
  Mark : (lane number : ℕ) → Raise

abbrev pub value_raised : Raise → ℕ
value_raised (Reserve n) = 0
value_raised (Mark lane n) = 1 + lane

abbrev pub number_raised : Raise → ℕ
number_raised (Reserve n) = n
number_raised (Mark lane n) = n

abbrev pub after_raise : Raise → Numbers → Numbers
after_raise (Reserve n) numbers = record { reserved = n; marks = numbers.marks }
after_raise (Mark lane n) numbers = record { reserved = numbers.reserved; marks = slice_set numbers.marks lane n }

abbrev pub after_raises : List Raise → Numbers → Numbers
after_raises [] numbers = numbers
after_raises (r ∷ rs) numbers = after_raises rs (after_raise r numbers)

-- a raise to a greater number of 48 bits, of a lane that is there
abbrev pub IsAbove : Raise → Numbers → Type 0
IsAbove (Reserve n) numbers = (numbers.reserved < n) × (n < 2 ^ 48)
IsAbove (Mark lane n) numbers = (lane < length numbers.marks) × (slice_index numbers.marks lane < n) × (n < 2 ^ 48)

-- each of them, over the numbers that those before it leave
abbrev pub AreAbove : List Raise → Numbers → Type 0
AreAbove [] numbers = Unit {0}
AreAbove (r ∷ rs) numbers = IsAbove r numbers × AreAbove rs (after_raise r numbers)

-- the writes of raises, each over the octets that those before it leave
abbrev pub writes_of : ℕ → List Raise → List ℕ → List Write
writes_of lanes [] octets = []
writes_of lanes (r ∷ rs) octets =
    raise_writes lanes octets (value_raised r) (number_raised r)
    ++ writes_of lanes rs (written (raise_writes lanes octets (value_raised r) (number_raised r)) octets)

-- the numbers that the first few of these raises leave, or those from before all of them
abbrev pub RestoresSome : List Raise → Numbers → List ℕ → Type 0
RestoresSome [] numbers image = RestoresNumbers numbers image
RestoresSome (r ∷ rs) numbers image = RestoresNumbers numbers image ⊎ RestoresSome rs (after_raise r numbers) image

-- These raises in turn, up to the first that is not answered Ok, of a memory that restores these numbers.
pub record Runs (numbers : Numbers) (raises : List Raise) (answer : Option NvmFault) (old new : State)
    (past since : ℕ → List ℕ → Type 0) : Type 0 where
  -- answer, octets and plan are those of the raises' writes
  pub makes : Makes (writes_of (length numbers.marks) raises old.octets) answer old new past since
  -- each image since restores the numbers that some of the raises leave, in their order
  pub any_moment : LeavesOnly old.clock past since (RestoresSome raises numbers)
  pub now : RestoresSome raises numbers new.octets
  -- and after all of them the last
  pub done : answer ≡ None → RestoresNumbers (after_raises raises numbers) new.octets

-- what a draw raises: the reservation, where the next number is above it and there is one
abbrev pub draw_raises : ℕ → ℕ → List Raise
draw_raises reserved next =
    if nat_lt reserved next && nat_lt next (2 ^ 48) then Reserve (reservation_for reserved next) ∷ [] else []
