-- How many writes draws take.
use Rattle.std.proofs.Common.{◌≡◌, ℕ, ◌+◌, ◌-◌, ◌*◌, ◌/◌, ◌^◌, ◌<◌, ◌≤◌, min, Bool, true, false, cond, List, [], ◌∷◌, length, refl, ap, subst, ◌∙◌, inl, inr, arith, leb-true, leb-false}
use Rattle.std.specs.Prelude.{nat_le}
use Rattle.std.specs.List.{sum_by}
use Rattle.std.proofs.lemmas.Bool.{cases_order}
use Rattle.std.proofs.lemmas.List.Sums.{sum_by-cons}
use Rattle.seq_store.specs.Draws.{reservation_for, Drawn, IsDraw, AreDraws}

abbrev writes_of : List Drawn → ℕ
writes_of draws = sum_by (λ (d : Drawn). d.writes) draws

writes_more : (d : Drawn) (rest : List Drawn) → writes_of (d ∷ rest) ≡ d.writes + writes_of rest
writes_more d rest = sum_by-cons (λ (d : Drawn). d.writes) d rest

-- the reservation of a number that is reserved, and of one that is not
kept_for : (last next : ℕ) → next ≤ last → reservation_for last next ≡ last
kept_for last next below = by_test (nat_le next last) refl where
  by_test : (le : Bool) → nat_le next last ≡ le → reservation_for last next ≡ last
  by_test true test = ap (λ le. cond le last (min (next + 63) (2 ^ 48 - 1))) test
  by_test false test = absurd (omega (arith, leb-false next last test))

raised_for : (last next : ℕ) → last < next → reservation_for last next ≡ min (next + 63) (2 ^ 48 - 1)
raised_for last next above = by_test (nat_le next last) refl where
  by_test : (le : Bool) → nat_le next last ≡ le → reservation_for last next ≡ min (next + 63) (2 ^ 48 - 1)
  by_test true test = absurd (omega (arith, leb-true next last test))
  by_test false test = ap (λ le. cond le last (min (next + 63) (2 ^ 48 - 1))) test

-- a store that is not sound draws no more
none_unsound : (last next : ℕ) (draws : List Drawn) → AreDraws false last next draws → writes_of draws ≡ 0
none_unsound last next [] are = refl
none_unsound last next (d ∷ rest) are = absurd (cc (are.0))

-- what some draws write, at most, with this last reserved number and this next one
abbrev at_most : ℕ → ℕ → ℕ → ℕ
at_most count last next = 3 * ((count - (last + 1 - next) + 63) / 64)

-- a draw, and those behind it
module _ (d : Drawn) (rest : List Drawn) (last next : ℕ) (draw : IsDraw last next d)
    (are : AreDraws d.sound d.last d.next rest) (below : next < 2 ^ 48) where
  unsound : d.sound ≡ false → writes_of rest ≡ 0
  unsound is = none_unsound d.last d.next rest (subst (λ s. AreDraws s d.last d.next rest) is are)

  -- of a number that is reserved, where all are
  none_behind : last ≡ 2 ^ 48 - 1 → (d.last ≡ 2 ^ 48 - 1 → d.next ≤ 2 ^ 48 → writes_of rest ≡ 0) → (s : Bool)
      → d.sound ≡ s → writes_of rest ≡ 0
  none_behind most again true is =
      let after = draw.drawn is below in
      again (after.1 ∙ kept_for last next (omega arith) ∙ most) (omega (arith, after.0))
  none_behind most again false is = unsound is

  -- of a number that is reserved
  kept : next ≤ last → last < 2 ^ 48 → (d.last < 2 ^ 48 → d.next ≤ d.last + 1
      → writes_of rest ≤ at_most (length rest) d.last d.next)
      → (s : Bool) → d.sound ≡ s → writes_of rest ≤ at_most (length rest + 1) last next
  kept reserved fits again true is =
      let after = draw.drawn is below in
      let same : d.last ≡ last = after.1 ∙ kept_for last next reserved in
      omega (arith, after.0, same, again (omega (arith, same)) (omega (arith, after.0, same)))
  kept reserved fits again false is = omega (arith, unsound is)

  -- of a number that is not
  ahead : next ≡ last + 1 → (d.last < 2 ^ 48 → d.next ≤ d.last + 1
      → writes_of rest ≤ at_most (length rest) d.last d.next)
      → (d.last ≡ 2 ^ 48 - 1 → d.next ≤ 2 ^ 48 → writes_of rest ≡ 0) → (s : Bool) → d.sound ≡ s
      → writes_of rest + 3 ≤ at_most (length rest + 1) last next
  ahead first again none true is =
      let after = draw.drawn is below in
      let least : d.last ≡ min (next + 63) (2 ^ 48 - 1) = after.1 ∙ raised_for last next (omega arith) in
      elim (cases_order (next + 63) (2 ^ 48 - 1)) [
        | inl same ↦ omega (arith, again (omega (arith, least)) (omega (arith, least, after.0)), least, after.0)
        | inr apart ↦ elim apart [
          | inl less ↦ omega (arith, again (omega (arith, least)) (omega (arith, least, after.0)), least, after.0)
          | inr more ↦ omega (arith, none (omega (arith, least)) (omega (arith, after.0)))
        ]
      ]
  ahead first again none false is = omega (arith, unsound is)

-- once all numbers are reserved no draw writes
none_more : (draws : List Drawn) (sound : Bool) (last next : ℕ) → last ≡ 2 ^ 48 - 1 → next ≤ 2 ^ 48
    → AreDraws sound last next draws → writes_of draws ≡ 0
none_more [] sound last next most fits are = refl
none_more (d ∷ rest) sound last next most fits are =
    writes_more d rest ∙ elim (cases_order next (2 ^ 48)) [
      | inl end ↦ let after = are.1.exhausted end in omega (
        arith,
        after,
        none_more rest d.sound d.last d.next
            (after.2 ∙ most) (omega (arith, after)) are.2,
      )
      | inr apart ↦ elim apart [
        | inl below ↦ omega (
          arith,
          are.1.none_where_reserved (omega arith),
          none_behind d rest last next are.1 are.2 below most (λ is fits. none_more rest d.sound d.last d.next is fits
              are.2) d.sound refl,
        )
        | inr beyond ↦ absurd (omega arith)
      ]
    ]

-- The first writes come when the numbers that are reserved are drawn, and then for each 64 numbers.
few_writes : (draws : List Drawn) (sound : Bool) (last next : ℕ) → last < 2 ^ 48 → next ≤ last + 1
    → AreDraws sound last next draws
    → writes_of draws ≤ at_most (length draws) last next
few_writes [] sound last next fits near are = omega arith
few_writes (d ∷ rest) sound last next fits near are = elim (cases_order next (2 ^ 48)) [
  | inl end ↦
      let after = are.1.exhausted end in
      omega (
        arith,
        writes_more d rest,
        after,
        few_writes rest d.sound d.last d.next (omega (arith, after))
            (omega (arith, after)) are.2,
      )
  | inr apart ↦ elim apart [
    | inl below ↦ elim (cases_order next (last + 1)) [
      | inl first ↦ omega (
        arith,
        writes_more d rest,
        are.1.few,
        ahead d rest last next are.1 are.2 below first (λ fits near. few_writes rest d.sound d.last d.next fits near
            are.2)
            (λ is fits. none_more rest d.sound d.last d.next is fits are.2) d.sound refl,
      )
      | inr other ↦ elim other [
        | inl reserved ↦ omega (
          arith,
          writes_more d rest,
          are.1.none_where_reserved (omega arith),
          kept d rest last next are.1 are.2 below (omega arith) fits
              (λ fits near. few_writes rest d.sound d.last d.next fits near are.2) d.sound refl,
        )
        | inr beyond ↦ absurd (omega arith)
      ]
    ]
    | inr beyond ↦ absurd (omega arith)
  ]
]

pub draws_bound : (last : ℕ) (draws : List Drawn) → last < 2 ^ 48 → AreDraws true last (last + 1) draws
    → sum_by (λ (d : Drawn). d.writes) draws ≤ 3 * (1 + length draws / 64)
draws_bound last draws fits are = omega (arith, few_writes draws true last (last + 1) fits (omega arith) are)
