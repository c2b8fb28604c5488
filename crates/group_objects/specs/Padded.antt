-- How a value lies in its room of 14 octets, with zeros behind it. This is plumbing for proofs.
use Rattle.std.specs.Prelude.{◌≡◌, ℕ, ◌-◌, ◌<◌, ◌≤◌, List, ◌++◌, length, take, drop, replicate, slice_index, Bool, true}
use Rattle.std.proofs.Common.{sym, ap, ◌∙◌, arith}
use Rattle.std.proofs.lemmas.Grind.{common_steps}
use Rattle.std.proofs.lemmas.List.{take-append-drop}
use Rattle.group_objects.specs.declared.value.Value.TheInside.{Inside}

pub record IsPadded (bits : Bool) (n : ℕ) (store : List ℕ) : Type 0 where
  pub room : length store ≡ 14
  pub fits : n ≤ 14
  pub some : 0 < n
  pub zeros : drop n store ≡ replicate (14 - n) 0
  pub one : bits ≡ true → n ≡ 1
  pub six : bits ≡ true → slice_index store 0 < 64

abbrev pub padded : List ℕ → List ℕ
padded octets = octets ++ replicate (14 - length octets) 0

taken : (n : ℕ) (store : List ℕ) → n ≤ 14 → length store ≡ 14 → length (take n store) ≡ n
taken n store fits room = grind (arith, common_steps, room, fits)

abbrev pub inside : Bool → ℕ → List ℕ → Inside
inside bits size store = record { bits = bits; size = size; store = store }

-- The room is its value and the zeros behind it.
pub take_back : (a : Inside) → IsPadded a.bits a.size a.store
    → inside a.bits (length (take a.size a.store)) (padded (take a.size a.store)) ≡ a
take_back a is =
    let octets = take a.size a.store in
    let size = taken a.size a.store is.fits is.room in
    ap (λ n. inside a.bits n (octets ++ replicate (14 - n) 0)) size
    ∙ ap (inside a.bits a.size) (ap (λ zeros. octets ++ zeros) (sym is.zeros) ∙ take-append-drop a.size a.store)
