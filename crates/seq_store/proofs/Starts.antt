-- What a memory restores, and where it is not formatted.
use Rattle.std.proofs.Common.{◌≡◌, ℕ, ◌+◌, ◌<◌, ◌≤◌, zero, suc, true, List, length, Option, None, Some, refl, sym, ap, subst, ◌∙◌, inl, inr, arith}
use Rattle.std.proofs.lemmas.Bool.{cases_order}
use Rattle.std.specs.Prelude.{is_some, IsSome, slice_index, ◌↔◌}
use Rattle.seq_store.specs.Layout.{place_of, value_of}
use Rattle.seq_store.specs.Laws.{Ready, Restores, IsUnformattedAt}
use Rattle.seq_store.specs.Refusal.{has_read}
use Rattle.seq_store.specs.declared.fault.StoreFault.{StoreFault}
use Rattle.seq_store.specs.declared.fault.StoreFault.TheVariants.{Unformatted, Memory, NoMemory}

-- What restores its numbers is ready.
pub restores_ready : (image : List ℕ) (last : ℕ) (marks : List ℕ) → Restores image last marks
    → Ready (length marks) image
restores_ready image last marks restores = record { size = restores.size; values = values } where
  values : (v : ℕ) → v ≤ length marks → IsSome (value_of (length marks) image v)
  values zero in_range = subst IsSome (sym restores.reserved) refl
  values (suc lane) in_range = subst (λ v. IsSome (value_of (length marks) image v)) (omega arith)
      (subst IsSome (sym (restores.each lane (omega (arith, in_range)))) refl)

-- what has no value is not there
none_some : {o : Option ℕ} → o ≡ None → IsSome o → ⊥
none_some is some = absurd (cc (some, ap is_some is))

-- No value is missing in what restores its numbers.
pub restores_all : (image : List ℕ) (last : ℕ) (marks : List ℕ) (place : ℕ) → Restores image last marks
    → IsUnformattedAt (length marks) image place → ⊥
restores_all image last marks place restores unformatted =
    none_some unformatted.none ((restores_ready image last marks restores).values unformatted.value
    unformatted.in_range)

-- The first value that is missing is one.
pub unformatted_once : (lanes : ℕ) (image : List ℕ) (p q : ℕ) → IsUnformattedAt lanes image p
    → IsUnformattedAt lanes image q → p ≡ q
unformatted_once lanes image p q here there = elim (cases_order here.value there.value) [
  | inl same ↦ here.is_place ∙ ap (place_of lanes) same ∙ sym there.is_place
  | inr rest ↦ elim rest [
    | inl before ↦ absurd (none_some here.none (there.first here.value before))
    | inr behind ↦ absurd (none_some there.none (here.first there.value behind))
  ]
]

-- what the values that are read up to a lane leave to be missing
pub unformatted_here : (image : List ℕ) (lanes last lane place : ℕ) (marks : List ℕ) → lane < lanes
    → value_of lanes image 0 ≡ Some last → ((k : ℕ) → k < lane
    → value_of lanes image (1 + k) ≡ Some (slice_index marks k))
    → (place ≡ place_of lanes (1 + lane)) × (value_of lanes image (1 + lane) ≡ None) → IsUnformattedAt lanes image place
unformatted_here image lanes last lane place marks below reserved each here = record {
  value = 1 + lane;
  in_range = omega arith;
  is_place = here.0;
  none = here.1;
  first = read;
} where
  read : (w : ℕ) → w < 1 + lane → IsSome (value_of lanes image w)
  read zero h = subst IsSome (sym reserved) refl
  read (suc k) h =
      subst (λ v. IsSome (value_of lanes image v)) (omega arith) (subst IsSome (sym (each k (omega (arith, h)))) refl)

-- A refusal tells a missing value exactly where one is missing, and all reads were answered.
pub tells_unformatted : (lanes : ℕ) (image : List ℕ) (fault : StoreFault) (place : ℕ)
    → ((p : ℕ) → fault ≡ Unformatted p → IsUnformattedAt lanes image p)
    → (Some fault ≡ Some (Unformatted place)) ↔ (IsUnformattedAt lanes image place × (has_read (Some fault) ≡ true))
tells_unformatted lanes image (Unformatted p) place tells = (
  λ is. (tells place (cc (is)), refl),
  λ missing. ap (λ p. Some (Unformatted p))
      (unformatted_once lanes image p place (tells p refl) missing.0),
)
tells_unformatted lanes image (Memory fault) place tells = (λ is. absurd cc, λ missing. absurd (cc (missing.1)))
tells_unformatted lanes image NoMemory place tells = (λ is. absurd cc, λ missing. absurd (cc (missing.1)))
