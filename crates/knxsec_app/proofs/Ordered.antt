-- From the files that a call read to those that a command opened.
use Rattle.std.proofs.Common.{◌≡◌, ℕ, List, [], ◌∷◌, ◌++◌, Option, Some, IsSome, Result, Ok, Err, inl, inr, refl, sym, subst, ◌∙◌}
use Rattle.std.specs.Prelude.{MatchResult}
use Rattle.std.specs.Result.{IsErr}
use Rattle.knx_base.specs.Files.{File, Seen}
use Rattle.knxsec_app.specs.Commands.{IsRead}
use Rattle.knxsec_app.specs.Ends.{OpensOne}
use Rattle.knxsec_app.specs.Order.{AllStay, OnlyIn, ReadsOne, ReadsInOrder, OpensInOrder}

-- the same places at the start
opens_from : (files : List File) (names : List (List ℕ)) (old mid new : List ℕ → ℕ) → AllStay old mid
    → OpensInOrder files names mid new → OpensInOrder files names old new
opens_from files [] old mid new same opens = λ other. opens other ∙ same other
opens_from files (name ∷ names) old mid new same (inl only) = inl (λ other differs. only other differs ∙ same other)
opens_from files (name ∷ names) old mid new same (inr (next, reads, rest)) = inr (
  next,
  record { only = λ other differs. reads.only other differs ∙ same other; end = reads.end },
  rest,
)

-- files that were read, and then those that were opened
pub reads_then : (files : List File) (names rest : List (List ℕ)) (old mid new : List ℕ → ℕ)
    → ReadsInOrder files names old mid → OpensInOrder files rest mid new → OpensInOrder files (names ++ rest) old new
reads_then files [] rest old mid new same opens = opens_from files rest old mid new same opens
reads_then files (name ∷ names) rest old mid new (next, reads, others) opens =
    inr (next, reads, reads_then files names rest next mid new others opens)

-- the command may name more files than it opened
pub opens_fewer : (files : List File) (names rest : List (List ℕ)) (old new : List ℕ → ℕ)
    → OpensInOrder files names old new → OpensInOrder files (names ++ rest) old new
opens_fewer files [] [] old new same = same
opens_fewer files [] (name ∷ rest) old new same = inl (λ other differs. same other)
opens_fewer files (name ∷ names) rest old new (inl only) = inl only
opens_fewer files (name ∷ names) rest old new (inr (next, reads, others)) =
    inr (next, reads, opens_fewer files names rest next new others)

-- what a call says that reads one file
pub only_of : (old new : Seen) (name : List ℕ) (told : List File) → old.told ≡ Some told → OpensOne old new name
    → OnlyIn name old.places new.places
only_of old new name told is opens = λ other differs.
    (opens (subst (λ (o : Option (List File)). IsSome o) (sym is) refl)).others other (differs, tt)

pub reads_of : (old new : Seen) (name : List ℕ) (told : List File) → old.told ≡ Some told → OpensOne old new name
    → IsRead told new name → ReadsOne told name old.places new.places
reads_of old new name told is opens read = record { only = only_of old new name told is opens; end = read }

-- two files were read, whatever came then
pub both_read : {T E : Type 0} (files : List File) (first second : List ℕ) (old mid new : List ℕ → ℕ)
    (result : Result T E) → ReadsOne files first old mid → ReadsOne files second mid new
    → MatchResult result (λ _. ReadsInOrder files (first ∷ second ∷ []) old new)
    (λ _. OpensInOrder files (first ∷ second ∷ []) old new)
both_read files first second old mid new (Ok value) reads then = (mid, reads, (new, then, λ other. refl))
both_read files first second old mid new (Err status) reads then = inr (mid, reads, inr (new, then, λ other. refl))

-- one file was read, and another in part
pub one_read : {T E : Type 0} (files : List File) (first second : List ℕ) (old mid new : List ℕ → ℕ)
    (result : Result T E) → IsErr result → ReadsOne files first old mid → OnlyIn second mid new
    → MatchResult result (λ _. ReadsInOrder files (first ∷ second ∷ []) old new)
    (λ _. OpensInOrder files (first ∷ second ∷ []) old new)
one_read files first second old mid new (Ok value) failed reads only = absurd cc
one_read files first second old mid new (Err status) failed reads only = inr (mid, reads, inl only)
