-- Addresses that are read from the words of a text in turn.
use Rattle.std.proofs.Common.{◌≡◌, ◌==◌, ℕ, ◌+◌, ◌<◌, Bool, true, false, cond, List, [], ◌∷◌, ◌++◌, length, get_or, drop, Result, Ok, Err, refl, sym, ap, ◌∙◌, arith, lit<, suc, append_assoc, append-nil}
use Rattle.std.specs.List.{filter, slice_split}
use Rattle.std.specs.declared.str.Split.{Split}
use Rattle.std.specs.Str.Iter.{split_steps, split_text, split_has_more, split_pattern}
use Rattle.std.specs.Str.Pattern.{FindsChar}
use Rattle.std.proofs.lemmas.Iterator.{YieldsList}
use Rattle.std.proofs.lemmas.Iterator.Splits.{YieldsList-from_str_split}
use Rattle.std.proofs.lemmas.Bool.{eqb-true}
use Rattle.std.proofs.lemmas.List.{drop_more, drop_all}
use Rattle.knx_base.specs.declared.address.IndAddr.{IndAddr}
use Rattle.keyring_reader.specs.declared.fault.KeyringFault.{KeyringFault}
use Rattle.keyring_reader.specs.Chain.{◌>>=◌}
use Rattle.keyring_reader.specs.Saying.{device_at, devices_at}
use Rattle.keyring_reader.specs.Elements.{is_word}

-- those that were read, before what is read of the rest
abbrev after : List IndAddr → Result (List IndAddr) KeyringFault → Result (List IndAddr) KeyringFault
after devices (Ok more) = Ok (devices ++ more)
after devices (Err why) = Err why

after_none : (rest : Result (List IndAddr) KeyringFault) → rest ≡ after [] rest
after_none (Ok more) = refl
after_none (Err why) = refl

after_one : (devices : List IndAddr) (device : IndAddr) (rest : Result (List IndAddr) KeyringFault)
    → after devices (rest >>= (λ more. Ok (device ∷ more))) ≡ after (devices ++ device ∷ []) rest
after_one devices device (Ok more) = ap (λ (all : List IndAddr). Ok all) (sym (append_assoc devices (device ∷ []) more))
after_one devices device (Err why) = refl

-- of these pieces so many were read
pub record HasRead (place : ℕ) (pieces : List (List ℕ)) (n : ℕ) (old now : List IndAddr) : Type 0 where
  pub devices : List IndAddr
  pub are : now ≡ old ++ devices
  pub left : devices_at place (filter is_word pieces) ≡ after devices
      (devices_at place (filter is_word (drop n pieces)))

pub none_read : (place : ℕ) (pieces : List (List ℕ)) (old : List IndAddr) → HasRead place pieces 0 old old
none_read place pieces old = record {
  devices = [];
  are = sym (append-nil old);
  left = after_none (devices_at place (filter is_word pieces));
}

next_piece : (pieces : List (List ℕ)) (n : ℕ) (piece : List ℕ) → (n < length pieces) × (piece ≡ get_or pieces n piece)
    → drop n pieces ≡ piece ∷ drop (n + 1) pieces
next_piece pieces n piece at =
    drop_more pieces n piece at.0 ∙ ap (λ (first : List ℕ). first ∷ drop (n + 1) pieces) (sym at.1)

pub skipped : (place : ℕ) (pieces : List (List ℕ)) (n m : ℕ) (old now : List IndAddr) (piece : List ℕ)
    → HasRead place pieces n old now
    → (n < length pieces) × (piece ≡ get_or pieces n piece) → is_word piece ≡ false → m ≡ n + 1
    → HasRead place pieces m old now
skipped place pieces n m old now piece read at none next = record {
  devices = read.devices;
  are = read.are;
  left =
      read.left
      ∙ ap (λ (left : List (List ℕ)). after read.devices (devices_at place (filter is_word left)))
      (next_piece pieces n piece at)
      ∙ ap (λ (b : Bool). after read.devices (devices_at place
      (cond b (piece ∷ filter is_word (drop (n + 1) pieces)) (filter is_word (drop (n + 1) pieces))))) none
      ∙ ap (λ (k : ℕ). after read.devices (devices_at place (filter is_word (drop k pieces)))) (sym next);
}

-- what is left, where the next piece is a word
at_word : (place : ℕ) (pieces : List (List ℕ)) (n : ℕ) (old now : List IndAddr) (piece : List ℕ)
    (read : HasRead place pieces n old now)
    → (n < length pieces) × (piece ≡ get_or pieces n piece) → is_word piece ≡ true
    → devices_at place (filter is_word pieces) ≡ after read.devices
    (devices_at place (piece ∷ filter is_word (drop (n + 1) pieces)))
at_word place pieces n old now piece read at word =
    read.left
    ∙ ap (λ (left : List (List ℕ)). after read.devices (devices_at place (filter is_word left)))
    (next_piece pieces n piece at)
    ∙ ap (λ (b : Bool). after read.devices (devices_at place
    (cond b (piece ∷ filter is_word (drop (n + 1) pieces)) (filter is_word (drop (n + 1) pieces))))) word

pub one_read : (place : ℕ) (pieces : List (List ℕ)) (n m : ℕ) (old now next : List IndAddr) (piece : List ℕ)
    (device : IndAddr) → HasRead place pieces n old now
    → (n < length pieces) × (piece ≡ get_or pieces n piece) → is_word piece ≡ true → device_at place piece ≡ Ok device
    → next ≡ now ++ device ∷ []
    → m ≡ n + 1 → HasRead place pieces m old next
one_read place pieces n m old now next piece device read at word is pushed more =
    let rest : Result (List IndAddr) KeyringFault = devices_at place (filter is_word (drop (n + 1) pieces)) in
    record {
      devices = read.devices ++ device ∷ [];
      are = pushed ∙ ap (λ (front : List IndAddr). front ++ device ∷ []) read.are
          ∙ append_assoc old read.devices (device ∷ []);
      left =
          at_word place pieces n old now piece read at word
          ∙ ap (λ (first : Result IndAddr KeyringFault). after read.devices
          (first >>= (λ d. rest >>= (λ more. Ok (d ∷ more))))) is
          ∙ after_one read.devices device rest
          ∙ ap (λ (k : ℕ). after (read.devices ++ device ∷ []) (devices_at place (filter is_word (drop k pieces))))
          (sym more);
    }

pub one_refused : (place : ℕ) (pieces : List (List ℕ)) (n : ℕ) (old now : List IndAddr) (piece : List ℕ)
    (why : KeyringFault) → HasRead place pieces n old now
    → (n < length pieces) × (piece ≡ get_or pieces n piece) → is_word piece ≡ true → device_at place piece ≡ Err why
    → devices_at place (filter is_word pieces) ≡ Err why
one_refused place pieces n old now piece why read at word is =
    let rest : Result (List IndAddr) KeyringFault = devices_at place (filter is_word (drop (n + 1) pieces)) in
    at_word place pieces n old now piece read at word
    ∙ ap (λ (first : Result IndAddr KeyringFault). after read.devices
    (first >>= (λ d. rest >>= (λ more. Ok (d ∷ more))))) is

pub all_read : (place : ℕ) (pieces : List (List ℕ)) (n : ℕ) (old now : List IndAddr) → HasRead place pieces n old now
    → n ≡ length pieces
    → (devices : List IndAddr) × (devices_at place (filter is_word pieces) ≡ Ok devices) × (now ≡ old ++ devices)
all_read place pieces n old now read all = (
  read.devices,
  read.left
      ∙ ap (λ (left : List (List ℕ)). after read.devices (devices_at place (filter is_word left)))
      (drop_all n pieces (omega (arith, all)))
      ∙ ap (λ (devices : List IndAddr). Ok devices) (append-nil read.devices),
  read.are,
)

pub has_octets : (text : List ℕ) (empty : Bool) → empty ≡ (length text == 0) → empty ≡ false → is_word text ≡ true
has_octets [] empty is some = cc
has_octets (octet ∷ text) empty is some = refl

not_empty : (n : ℕ) (empty : Bool) → empty ≡ (suc n == 0) → empty ≡ true → ⊥
not_empty n empty is none = omega (arith, eqb-true (suc n) 0 (sym is ∙ none))

pub has_none : (text : List ℕ) (empty : Bool) → empty ≡ (length text == 0) → empty ≡ true → is_word text ≡ false
has_none [] empty is none = refl
has_none (octet ∷ text) empty is none = absurd (not_empty (length text) empty is none)

-- the pieces that a loop over them yields
pub pieces_yielded : (s t : Split ℕ) (text : List ℕ) → s ≡ t → split_text t ≡ text → split_has_more t ≡ true
    → split_pattern t ≡ 32
    → YieldsList (split_steps FindsChar (λ a b. b ≡ a)) (λ x. x.now) s (slice_split (λ octet. octet == 32) text)
pieces_yielded s t text is text_is more pattern =
    YieldsList-from_str_split {s = s} 32 text (lit< tt) (ap split_text is ∙ text_is) (ap split_has_more is ∙ more)
    (ap split_pattern is ∙ pattern)
