-- A formatted memory is ready, and restores its numbers.
use Rattle.std.proofs.Common.{◌≡◌, ℕ, zero, suc, ◌+◌, ◌*◌, ◌^◌, ◌<◌, ◌≤◌, true, false, List, [], ◌∷◌, ◌++◌, length, Option, Some, None, replicate, refl, sym, ap, ◌∙◌, arith, length-append, zero-add}
use Rattle.std.specs.Prelude.{slice_index, ◌==◌}
use Rattle.std.specs.List.{All}
use Rattle.std.proofs.lemmas.Grind.{common_steps}
use Rattle.std.proofs.lemmas.List.{length-replicate}
use Rattle.nvm_model.specs.Gate.{is_open, open_octet, HasBody}
use Rattle.seq_store.specs.Layout.{width, store_size, value_of, formatted_memory}
use Rattle.seq_store.specs.Laws.{Ready, Restores}
use Rattle.seq_store.specs.Ring.{generation_at, numbers_sum, bank_size, bank_body, open_generation, banks_by, banks_of}
use Rattle.seq_store.specs.declared.bank.Banks.{Banks}
use Rattle.seq_store.proofs.Bodies.{body_generation, body_value, length-bank_body}
use Rattle.seq_store.proofs.RaiseLaws.{shown_value}
use Rattle.seq_store.proofs.Rings.{Shows}
use Rattle.seq_store.proofs.Starts.{restores_ready}
use Rattle.seq_store.proofs.Turn.{opens, shuts}

-- a bank that is open over a body of generation 0, and zeros of so many octets behind it
module _ (values : ℕ) (number : ℕ → ℕ) (fits : (v : ℕ) → v < values → number v < 2 ^ 48) where
  abbrev image : List ℕ
  image = open_octet ∷ bank_body width values 0 number ++ replicate (bank_size width values) 0

  size : 1 + length (bank_body width values 0 number) ≡ bank_size width values
  size = length-bank_body width values 0 number

  zeros : length (replicate {A = ℕ} (bank_size width values) 0) ≡ bank_size width values
  zeros = length-replicate {A = ℕ} (bank_size width values) 0

  has : HasBody 0 (bank_body width values 0 number) (open_octet ∷ bank_body width values 0 number
      ++ replicate (bank_size width values) 0)
  has = record { each = λ k h. grind (arith, common_steps, h) }

  first_open : open_generation values image 0 ≡ Some 0
  first_open =
      opens values image 0 0 refl (body_generation width values 0 0 number image fits has (omega arith)) (omega arith)

  second_zero : slice_index (open_octet ∷ bank_body width values 0 number ++ replicate (bank_size width values) 0)
      (0 + bank_size width values) ≡ 0
  second_zero =
      let more : 0 + bank_size width values ≡ suc (length (bank_body width values 0 number) + 0) =
      omega (arith, size) in
      let there : slice_index (open_octet ∷ bank_body width values 0 number ++ replicate (bank_size width values) 0)
      (suc (length (bank_body width values 0 number) + 0)) ≡ 0 =
      grind (arith, common_steps, size, zeros) in
      rw more there

  second_shut : open_generation values image (0 + bank_size width values) ≡ None
  second_shut = shuts values image (0 + bank_size width values) (ap (λ octet. octet == 0xA5) second_zero)

  pub formatted_shows : Shows width values 0 (open_octet ∷ bank_body width values 0 number
      ++ replicate (bank_size width values) 0) number
  unfolding banks_of
  formatted_shows = record {
    banks = record { current = 0; other = 0 + bank_size width values };
    found = ap (λ x. banks_by x (open_generation values image (0 + bank_size width values)) 0
        (0 + bank_size width values)) first_open
        ∙ ap (λ y. banks_by (Some 0) y 0 (0 + bank_size width values)) second_shut;
    each = λ w below. body_value width values 0 0 number image fits has w below;
  }

  pub formatted_size : length (open_octet ∷ bank_body width values 0 number ++ replicate (bank_size width values) 0)
      ≡ 2 * bank_size width values
  formatted_size = simp length-append (omega (arith, size, zeros))

all_fit : (n : ℕ) (ns : List ℕ) → n < 2 ^ 48 → ((k : ℕ) → k < length ns → slice_index ns k < 2 ^ 48)
    → (k : ℕ) → k < 1 + length ns → slice_index (n ∷ ns) k < 2 ^ 48
all_fit n ns fits each zero below = fits
all_fit n ns fits each (suc k) below = each k (omega (arith, below))

pub formatted_restores : (reserved : ℕ) (marks : List ℕ) → reserved < 2 ^ 48
    → ((k : ℕ) → k < length marks → slice_index marks k < 2 ^ 48)
    → Restores (formatted_memory reserved marks) reserved marks
unfolding formatted_memory
formatted_restores reserved marks fits each_fits =
    let all : (k : ℕ) → k < 1 + length marks → slice_index (reserved ∷ marks) k < 2 ^ 48 =
    all_fit reserved marks fits each_fits in
    let shows = formatted_shows (1 + length marks) (slice_index (reserved ∷ marks)) all in
    record {
      size = formatted_size (1 + length marks) (slice_index (reserved ∷ marks)) all ∙ omega arith;
      reserved = shown_value (length marks) _ (slice_index (reserved ∷ marks)) shows 0 (omega arith);
      each = λ lane below.
          let next : 1 + lane ≡ suc lane = omega arith in
          shown_value (length marks) _ (slice_index (reserved ∷ marks)) shows (1 + lane) (omega (arith, below))
          ∙ ap (λ k. Some (slice_index (reserved ∷ marks) k)) next;
    }

pub formatted_law : (last : ℕ) (numbers : List ℕ) → last < 2 ^ 48 → All (λ n. n < 2 ^ 48) numbers
    → Restores (formatted_memory last numbers) last numbers × Ready (length numbers) (formatted_memory last numbers)
formatted_law last numbers fits each =
    let restores = formatted_restores last numbers fits (λ k h. each k 0 h) in
    (restores, restores_ready (formatted_memory last numbers) last numbers restores)
