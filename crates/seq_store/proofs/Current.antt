-- Which bank is current after one of them was changed.
use Rattle.std.proofs.Common.{◌≡◌, ◌⊎◌, ℕ, ◌+◌, ◌≤◌, Bool, true, false, cond, Option, Some, None, refl, sym, ap, ◌∙◌, inl, inr, arith, leb-true, leb-false}
use Rattle.std.specs.Prelude.{nat_le}
use Rattle.seq_store.specs.Ring.{banks_by}
use Rattle.seq_store.specs.declared.bank.Banks.{Banks}

current_in : Option Banks → ℕ
current_in None = 0
current_in (Some banks) = banks.current

other_in : Option Banks → ℕ
other_in None = 0
other_in (Some banks) = banks.other

-- the open bank at one place is current
record Side (x : Option ℕ) (first second : ℕ) (banks : Banks) : Type 0 where
  pub generation : ℕ
  pub is_open : x ≡ Some generation
  pub current : first ≡ banks.current
  pub other : second ≡ banks.other

by_test : (t : Bool) (g h p q : ℕ) (banks : Banks)
    → cond t (Some (record { current = p; other = q })) (Some (record { current = q; other = p })) ≡ Some banks
    → Side (Some g) p q banks ⊎ Side (Some h) q p banks
unfolding current_in other_in
by_test true g h p q banks found =
    inl (record { generation = g; is_open = refl; current = ap current_in found; other = ap other_in found })
by_test false g h p q banks found =
    inr (record { generation = h; is_open = refl; current = ap current_in found; other = ap other_in found })

sides : (x y : Option ℕ) (p q : ℕ) (banks : Banks) → banks_by x y p q ≡ Some banks → Side x p q banks ⊎ Side y q p banks
unfolding current_in other_in
sides None None p q banks found = absurd cc
sides (Some g) None p q banks found =
    inl (record { generation = g; is_open = refl; current = ap current_in found; other = ap other_in found })
sides None (Some h) p q banks found =
    inr (record { generation = h; is_open = refl; current = ap current_in found; other = ap other_in found })
sides (Some g) (Some h) p q banks found = by_test (nat_le h g) g h p q banks found

-- the bank at p is current, and then the one at q is not open
alone_first : (g p q : ℕ) (banks : Banks) → p ≡ banks.current → q ≡ banks.other
    → banks_by (Some g) None p q ≡ Some banks
alone_first g p q banks current other = λ i. Some (record { current = current i; other = other i })

alone_second : (g p q : ℕ) (banks : Banks) → q ≡ banks.current → p ≡ banks.other
    → banks_by None (Some g) p q ≡ Some banks
alone_second g p q banks current other = λ i. Some (record { current = current i; other = other i })

-- or it has the next generation
next_second : (g p q : ℕ) → (t : Bool) → nat_le (g + 1) g ≡ t
    → banks_by (Some g) (Some (g + 1)) p q ≡ Some (record { current = q; other = p })
next_second g p q true test = absurd (omega (arith, leb-true (g + 1) g test))
next_second g p q false test =
    ap (λ t. cond t (Some (record { current = p; other = q })) (Some (record { current = q; other = p }))) test

next_first : (g p q : ℕ) → (t : Bool) → nat_le g (g + 1) ≡ t
    → banks_by (Some (g + 1)) (Some g) p q ≡ Some (record { current = p; other = q })
next_first g p q true test =
    ap (λ t. cond t (Some (record { current = p; other = q })) (Some (record { current = q; other = p }))) test
next_first g p q false test = absurd (omega (arith, leb-false g (g + 1) test))

-- the generation of the current bank
pub record CurrentOpen (old : ℕ → Option ℕ) (banks : Banks) : Type 0 where
  pub generation : ℕ
  pub is_open : old banks.current ≡ Some generation

-- old and new generations of the banks that are open, by their places
module _ (old new : ℕ → Option ℕ) (p q : ℕ) (banks : Banks) (found : banks_by (old p) (old q) p q ≡ Some banks) where
  pub kept : new banks.current ≡ old banks.current → (new banks.other ≡ None) ⊎ (new banks.other ≡ old banks.other)
      → banks_by (new p) (new q) p q ≡ Some banks
  kept same (inr same_other) = elim (sides (old p) (old q) p q banks found) [
    | inl side ↦ ap (λ x. banks_by x (new q) p q) (ap new side.current ∙ same ∙ ap old (sym side.current))
        ∙ ap (λ y. banks_by (old p) y p q) (ap new side.other ∙ same_other ∙ ap old (sym side.other)) ∙ found
    | inr side ↦ ap (λ x. banks_by x (new q) p q) (ap new side.other ∙ same_other ∙ ap old (sym side.other))
        ∙ ap (λ y. banks_by (old p) y p q) (ap new side.current ∙ same ∙ ap old (sym side.current)) ∙ found
  ]
  kept same (inl shut) = elim (sides (old p) (old q) p q banks found) [
    | inl side ↦ ap (λ x. banks_by x (new q) p q) (ap new side.current ∙ same ∙ ap old (sym side.current)
        ∙ side.is_open)
        ∙ ap (λ y. banks_by (Some side.generation) y p q) (ap new side.other ∙ shut)
        ∙ alone_first side.generation p q banks side.current side.other
    | inr side ↦ ap (λ x. banks_by x (new q) p q) (ap new side.other ∙ shut)
        ∙ ap (λ y. banks_by None y p q) (ap new side.current ∙ same ∙ ap old (sym side.current) ∙ side.is_open)
        ∙ alone_second side.generation p q banks side.current side.other
  ]

  pub turned : (g : ℕ) → new banks.current ≡ Some g → new banks.other ≡ Some (g + 1)
      → banks_by (new p) (new q) p q ≡ Some (record { current = banks.other; other = banks.current })
  turned g same next = elim (sides (old p) (old q) p q banks found) [
    | inl side ↦ ap (λ x. banks_by x (new q) p q) (ap new side.current ∙ same)
        ∙ ap (λ y. banks_by (Some g) y p q) (ap new side.other ∙ next) ∙ next_second g p q (nat_le (g + 1) g) refl
        ∙ (λ i. Some (record { current = side.other i; other = side.current i }))
    | inr side ↦ ap (λ x. banks_by x (new q) p q) (ap new side.other ∙ next)
        ∙ ap (λ y. banks_by (Some (g + 1)) y p q) (ap new side.current ∙ same)
        ∙ next_first g p q (nat_le g (g + 1)) refl
        ∙ (λ i. Some (record { current = side.other i; other = side.current i }))
  ]

  -- the two banks are the two places
  pub placed : ((banks.current ≡ p) × (banks.other ≡ q)) ⊎ ((banks.current ≡ q) × (banks.other ≡ p))
  placed = elim (sides (old p) (old q) p q banks found) [
    | inl side ↦ inl (sym side.current, sym side.other)
    | inr side ↦ inr (sym side.current, sym side.other)
  ]

  pub current_open : CurrentOpen old banks
  current_open = elim (sides (old p) (old q) p q banks found) [
    | inl side ↦ record { generation = side.generation; is_open = ap old (sym side.current) ∙ side.is_open }
    | inr side ↦ record { generation = side.generation; is_open = ap old (sym side.current) ∙ side.is_open }
  ]
