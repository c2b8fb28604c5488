-- Characters, and then zeros.
use Rattle.std.proofs.Common.{◌≡◌, ◌≢◌, ℕ, zero, suc, ◌+◌, ◌-◌, ◌<◌, ◌≤◌, Bool, true, false, eqb, List, [], ◌∷◌, ◌++◌, length, take, drop, get_or, refl, ap, sym, ◌∙◌, arith, replicate, length-append, inl, inr}
use Rattle.std.specs.List.{list_all}
use Rattle.std.proofs.lemmas.List.{length-replicate, get_or-replicate, get_or-append_right, drop-replicate}
use Rattle.std.proofs.lemmas.List.Folds.{list_all_at}
use Rattle.std.proofs.Math.Seq.{take-append_seam, drop-append_seam, take-length}
use Rattle.std.proofs.lemmas.Bool.{eqb-true, cases_lt}
use Rattle.std.proofs.lemmas.Grind.{common_steps}
use Rattle.datapoints.specs.Values.{is_printable, IsCharacters}

abbrev pub is_zero : ℕ → Bool
is_zero octet = eqb octet 0

all_zero : (xs : List ℕ) → list_all is_zero xs ≡ true → xs ≡ replicate (length xs) 0
all_zero [] h = refl
all_zero (x ∷ xs) h = by (eqb x 0) refl h (all_zero xs)
  where
    by : (b : Bool) → eqb x 0 ≡ b → list_all is_zero (x ∷ xs) ≡ true
        → (list_all is_zero xs ≡ true → xs ≡ replicate (length xs) 0) → x ∷ xs ≡ 0 ∷ replicate (length xs) 0
    by true e all hypothesis = let zero_x = eqb-true x 0 e in let rest : list_all is_zero xs ≡ true = rw e at all in
        let same = hypothesis rest in cc
    by false e all hypothesis = absurd (let no = rw e at all in cc)

zeros_are_zero : (k : ℕ) → list_all is_zero (replicate k 0) ≡ true
zeros_are_zero zero = refl
zeros_are_zero (suc k) = zeros_are_zero k

-- where the octets are characters and then zeros, their end is the place of the first zero, or the end
pub end_is : (octets characters : List ℕ) (k end : ℕ) → octets ≡ characters ++ replicate k 0
    → list_all is_printable characters ≡ true → end ≤ length octets
    → ((j : ℕ) → j < end → get_or octets j 0 ≢ 0) → (end < length octets → get_or octets end 0 ≡ 0)
    → end ≡ length characters
end_is octets characters k end are printable within before at =
    let sizes : length octets ≡ length characters + k =
    ap length are ∙ length-append characters (replicate k 0) ∙ ap (λ n. length characters + n) (length-replicate k 0) in
    elim (cases_lt end (length characters)) [
      | inl early ↦
          let zero_there : get_or characters end 0 ≡ 0 =
          grind (arith, common_steps, are, at (omega arith))
          in
          absurd (let no = list_all_at is_printable characters end 0 early (ap is_printable zero_there) in cc)
      | inr late ↦ elim (cases_lt (length characters) end) [
        | inl later ↦
            let zero_there : get_or octets (length characters) 0 ≡ 0 =
            ap (λ list. get_or list (length characters) 0) are
            ∙ get_or-append_right characters (replicate k 0) (length characters) (length characters) 0 refl
            (omega arith)
            ∙ ap (λ n. get_or (replicate k 0) n 0) (omega arith)
            ∙ get_or-replicate k 0 0 0 (omega arith)
            in
            absurd (before (length characters) later zero_there)
        | inr not_later ↦ omega arith
      ]
    ]

pub parts_of : (octets text : List ℕ) (end : ℕ) → IsCharacters octets text → end ≤ length octets
    → ((j : ℕ) → j < end → get_or octets j 0 ≢ 0) → (end < length octets → get_or octets end 0 ≡ 0)
    → (list_all is_printable (take end octets) ≡ true) × (list_all is_zero (drop end octets) ≡ true)
parts_of octets text end is within before at =
    let k : ℕ = 14 - length is.characters in
    let end_at = end_is octets is.characters k end is.octets_are is.printable within before at in
    let front : take end octets ≡ is.characters =
    ap (λ n. take n octets) end_at ∙ ap (take (length is.characters)) is.octets_are
    ∙ take-append_seam is.characters (replicate k 0)
    in
    let back : drop end octets ≡ replicate k 0 =
    ap (λ n. drop n octets) end_at ∙ ap (drop (length is.characters)) is.octets_are
    ∙ drop-append_seam is.characters (replicate k 0)
    in
    (ap (list_all is_printable) front ∙ is.printable, ap (list_all is_zero) back ∙ zeros_are_zero k)

pub built_of : (octets front back text : List ℕ) → length octets ≡ 14 → front ++ back ≡ octets
    → list_all is_printable front ≡ true → list_all is_zero back ≡ true → text ≡ 34 ∷ (front ++ 34 ∷ [])
    → IsCharacters octets text
built_of octets front back text size whole printable zeros spelled =
    let sizes = ap length whole in
    let both = length-append front back in
    record {
      characters = front;
      few = omega arith;
      printable = printable;
      octets_are = sym whole ∙ ap (λ list. front ++ list) (all_zero back zeros)
          ∙ ap (λ n. front ++ replicate n 0) (omega arith);
      spelled = spelled;
    }

-- what is written in turn: a quote, the characters, a quote
pub quoted : (start first second third characters : List ℕ) → start ≡ [] → first ≡ start ++ 34 ∷ []
    → second ≡ first ++ characters → third ≡ second ++ 34 ∷ [] → third ≡ 34 ∷ (characters ++ 34 ∷ [])
quoted start first second third characters none one two three =
    three ∙ ap (λ l. l ++ 34 ∷ []) (two ∙ ap (λ l. l ++ characters) (one ∙ ap (λ l. l ++ 34 ∷ []) none))

-- octets, and zeros up to fourteen
pub filled_is : (octets written : List ℕ) → written ≡ octets → length octets ≤ 14
    → take 14 (written ++ drop (length octets) (replicate 14 0)) ≡ octets ++ replicate (14 - length octets) 0
filled_is octets written is few =
    let whole : List ℕ = octets ++ replicate (14 - length octets) 0 in
    let sizes : length whole ≡ 14 =
    length-append octets (replicate (14 - length octets) 0)
    ∙ ap (λ n. length octets + n) (length-replicate (14 - length octets) 0) ∙ omega arith
    in
    ap (λ l. take 14 (l ++ drop (length octets) (replicate 14 0))) is
    ∙ ap (λ l. take 14 (octets ++ l)) (drop-replicate (length octets) 14 0)
    ∙ ap (λ n. take n whole) (sym sizes) ∙ take-length whole
