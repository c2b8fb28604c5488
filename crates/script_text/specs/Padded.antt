-- How octets lie in their room, with zeros behind them. This is plumbing for proofs.
use Rattle.std.specs.Prelude.{◌≡◌, ℕ, ◌-◌, ◌<◌, ◌≤◌, List, ◌++◌, length, take, drop, replicate}
use Rattle.std.proofs.Common.{sym, ap, ◌∙◌, arith}
use Rattle.std.proofs.lemmas.Grind.{common_steps}
use Rattle.std.proofs.lemmas.List.{take-append-drop, drop-replicate}
use Rattle.std.proofs.Math.Seq.{drop-append_seam}
use Rattle.script_text.specs.declared.octets.Octets.TheInside.{Inside}

pub record IsPadded (room n : ℕ) (store : List ℕ) : Type 0 where
  pub size : length store ≡ room
  pub fits : n ≤ room
  pub zeros : drop n store ≡ replicate (room - n) 0

abbrev pub padded : ℕ → List ℕ → List ℕ
padded room octets = octets ++ replicate (room - length octets) 0

taken : (room n : ℕ) (store : List ℕ) → n ≤ room → length store ≡ room → length (take n store) ≡ n
taken room n store fits size = grind (arith, common_steps, size, fits)

abbrev pub inside : (room : ℕ) → List ℕ → ℕ → Inside room
inside room store len = record { store = store; len = len }

-- The room is its octets and the zeros behind them.
pub take_back : (room : ℕ) (a : Inside room) → IsPadded room a.len a.store
    → inside room (padded room (take a.len a.store)) (length (take a.len a.store)) ≡ a
take_back room a is =
    let octets = take a.len a.store in
    let size = taken room a.len a.store is.fits is.size in
    ap (λ n. inside room (octets ++ replicate (room - n) 0) n) size
    ∙ ap (λ store. inside room store a.len) (ap (λ zeros. octets ++ zeros) (sym is.zeros)
    ∙ take-append-drop a.len a.store)

-- so octets lie that were written over zeros
pub is_padded : (room : ℕ) (octets : List ℕ) → length octets ≤ room
    → IsPadded room (length octets) (octets ++ drop (length octets) (replicate room 0))
is_padded room octets fits = record {
  size = grind (arith, common_steps, fits);
  fits = fits;
  zeros = drop-append_seam octets (drop (length octets) (replicate room 0)) ∙ drop-replicate (length octets) room 0;
}
