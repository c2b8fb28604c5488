-- Octets that are put one behind the other at the front of a buffer.
use Rattle.std.proofs.Common.{◌≡◌, ℕ, ◌+◌, ◌-◌, ◌≤◌, List, [], ◌∷◌, ◌++◌, take, drop, refl, sym, ap, ◌∙◌, arith}
use Rattle.std.proofs.lemmas.List.{take-append-drop, drop-take}
use Rattle.cemi_frames.specs.Fields.{message, info_octets}

pub front_and_rest : (n : ℕ) (text old new : List ℕ) → take n new ≡ text → drop n new ≡ drop n old → new ≡ text
    ++ drop n old
front_and_rest n text old new front rest = sym (take-append-drop n new) ∙ rw (front, rest) refl

pub message-octets : (code : ℕ) (header content body : List ℕ) → header ++ content ≡ body → ((code ∷ 0 ∷ []) ++ header)
    ++ content ≡ message code [] body
unfolding message info_octets
message-octets code header content body is = ap (λ (t : List ℕ). code ∷ 0 ∷ t) is

-- what stands between place 2 and this place
pub behind_two : (n : ℕ) (first second : ℕ) (text out : List ℕ) → 2 ≤ n → take n out ≡ first ∷ second ∷ text
    → take (n - 2) (drop 2 out) ≡ text
behind_two n first second text out two front =
    let size : 2 + (n - 2) ≡ n = omega arith in
    sym (drop-take 2 (n - 2) out) ∙ ap (λ (k : ℕ). drop 2 (take k out)) size ∙ ap (drop 2) front
