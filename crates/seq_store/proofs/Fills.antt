-- What stands behind the gate of a new bank, number by number.
use Rattle.std.proofs.Common.{◌≡◌, ℕ, suc, ◌+◌, ◌*◌, ◌-◌, ◌<◌, ◌≤◌, List, [], ◌∷◌, ◌++◌, length, take, drop, replicate, refl, sym, ap, ◌∙◌, arith, append_assoc, append-nil, length-append}
use Rattle.std.proofs.Math.Seq.{take-append_seam, drop-append_seam}
use Rattle.std.proofs.lemmas.Grind.{common_steps}
use Rattle.std.proofs.lemmas.List.{drop-replicate}
use borrow.Rule.Slice.PartMut.{put_mid, post_of}
use Rattle.knx_base.specs.Number.{octets_of}
use Rattle.knx_base.proofs.NumberLemmas.{length-octets_of}
use Rattle.seq_store.specs.Ring.{generation_octets, numbers_octets, bank_body}
use Rattle.seq_store.proofs.Bodies.{length-generation_octets, length-numbers_octets}

fill_six : (front six : List ℕ) (n m a : ℕ) → length front ≡ a → length six ≡ 6 → n ≡ 6 + m
    → put_mid a 6 (front ++ replicate n 0) six ≡ (front ++ six) ++ replicate m 0
fill_six front six n m a is size more =
    let left : n - 6 ≡ m = omega (arith, more) in
    ap (λ a. put_mid a 6 (front ++ replicate n 0) six) (sym is)
    ∙ ap (λ t. t ++ (six ++ post_of (length front) 6 (front ++ replicate n 0))) (take-append_seam front (replicate n 0))
    ∙ ap (λ d. front ++ (six ++ drop 6 d)) (drop-append_seam front (replicate n 0))
    ∙ ap (λ d. front ++ (six ++ d)) (drop-replicate 6 n 0)
    ∙ ap (λ k. front ++ (six ++ replicate k 0)) left
    ∙ sym (append_assoc front six (replicate m 0))

pub fill_more : (g values w a k : ℕ) (number : ℕ → ℕ) (body six : List ℕ) → w < values → a ≡ 8 + 6 * w → k ≡ 6
    → six ≡ octets_of (number w)
    → body ≡ generation_octets g ++ numbers_octets number w ++ replicate (6 * (values - w) + 128) 0
    → put_mid a k body six ≡ generation_octets g ++ numbers_octets number (w + 1)
    ++ replicate (6 * (values - (w + 1)) + 128) 0
unfolding numbers_octets
fill_more g values w a k number body six below start width is so_far =
    let front : List ℕ = generation_octets g ++ numbers_octets number w in
    let size : length front ≡ a =
    simp length-append (omega (arith, length-generation_octets g, length-numbers_octets number w, start)) in
    let six_size : length six ≡ 6 = ap length is ∙ length-octets_of (number w) in
    let next : w + 1 ≡ suc w = omega arith in
    ap (λ b. put_mid a k b six) so_far
    ∙ ap (λ k. put_mid a k (front ++ replicate (6 * (values - w) + 128) 0) six) width
    ∙ fill_six front six (6 * (values - w) + 128) (6 * (values - (w + 1)) + 128) a size six_size (omega (arith, below))
    ∙ ap (λ s. (front ++ s) ++ replicate (6 * (values - (w + 1)) + 128) 0) is
    ∙ ap (λ f. f ++ replicate (6 * (values - (w + 1)) + 128) 0)
    (append_assoc (generation_octets g) (numbers_octets number w) (octets_of (number w)))
    ∙ ap (λ m. generation_octets g ++ numbers_octets number m ++ replicate (6 * (values - (w + 1)) + 128) 0) (sym next)

pub fill_start : (g values k : ℕ) (number : ℕ → ℕ) (body first : List ℕ) → body ≡ replicate (8 + 6 * values + 128) 0
    → first ≡ generation_octets g → k ≡ 8
    → first ++ drop k body ≡ generation_octets g ++ numbers_octets number 0 ++ replicate (6 * (values - 0) + 128) 0
unfolding numbers_octets
fill_start g values k number body first zeros is size =
    let left : 8 + 6 * values + 128 - 8 ≡ 6 * (values - 0) + 128 = omega arith in
    ap (λ f. f ++ drop k body) is
    ∙ ap (λ k. generation_octets g ++ drop k body) size
    ∙ ap (λ b. generation_octets g ++ drop 8 b) zeros
    ∙ ap (λ d. generation_octets g ++ d) (drop-replicate 8 (8 + 6 * values + 128) 0)
    ∙ ap (λ n. generation_octets g ++ replicate n 0) left
    ∙ ap (λ f. f ++ replicate (6 * (values - 0) + 128) 0) (sym (append-nil (generation_octets g)))

pub fill_end : (g values w : ℕ) (number : ℕ → ℕ) (body : List ℕ) → w ≡ values
    → body ≡ generation_octets g ++ numbers_octets number w ++ replicate (6 * (values - w) + 128) 0
    → body ≡ bank_body 1 values g number
unfolding bank_body
fill_end g values w number body is so_far =
    let none : 6 * (values - values) + 128 ≡ 16 * (7 + 1) = omega arith in
    so_far ∙ ap (λ w. generation_octets g ++ numbers_octets number w ++ replicate (6 * (values - w) + 128) 0) is
    ∙ ap (λ n. generation_octets g ++ numbers_octets number values ++ replicate n 0) none
