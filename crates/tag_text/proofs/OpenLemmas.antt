-- The innermost of the open elements.
use Rattle.std.proofs.Common.{◌≡◌, ℕ, ◌+◌, ◌<◌, ◌≤◌, List, [], ◌∷◌, length, take, drop, map, reverse, get_or, arith, ap, ◌∙◌, sym}
use Rattle.std.proofs.lemmas.List.{map-append, reverse-append, take_more, length-reverse, length-map, length-take-le}

-- the list from the back without its last
pub reverse_shorter : {A B : Type 0} (f : A → B) (xs : List A) (n : ℕ) → n < length xs
    → reverse (map f (take n xs)) ≡ drop 1 (reverse (map f (take (n + 1) xs)))
reverse_shorter f [] n inside = absurd (omega (arith, inside))
reverse_shorter {A} {B} f (x ∷ xs) n inside =
    let last : A = get_or (x ∷ xs) n x in
    sym (ap (λ (front : List A). drop 1 (reverse (map f front))) (take_more (x ∷ xs) n x inside)
    ∙ ap (λ (front : List B). drop 1 (reverse front)) (map-append f (take n (x ∷ xs)) (last ∷ []))
    ∙ ap (λ (front : List B). drop 1 front) (reverse-append (map f (take n (x ∷ xs))) (f last ∷ [])))

pub length_from_back : {A B : Type 0} (f : A → B) (xs : List A) (n : ℕ) (shown : List B)
    → reverse (map f (take n xs)) ≡ shown → n ≤ length xs → length shown ≡ n
length_from_back {A} {B} f xs n shown is inside =
    ap length (sym is) ∙ length-reverse (map f (take n xs)) ∙ length-map (take n xs) f ∙ length-take-le n xs inside
