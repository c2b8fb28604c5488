-- Each list of octets is a document of the grammar with exactly one outcome, the one that is read.
use Rattle.std.proofs.Common.{◌≡◌, ℕ, zero, suc, ◌<◌, ◌≤◌, Bool, true, false, cond, ◌&&◌, ◌⊎◌, inl, inr, nat_lt, nat_le, List, [], ◌∷◌, length, take, Option, Some, None, arith, ap, ◌∙◌, sym, refl, subst}
use Rattle.std.specs.Option.{option_map_or}
use Rattle.std.specs.Str.{IsUtf8, is_utf8, IsValidUpTo}
use Rattle.std.specs.Str.Lossy.{utf8_valid_len, valid_len_up_to}
use Rattle.std.proofs.lemmas.Str.{IsUtf8-from_is_utf8, is_utf8-from_IsUtf8, utf8_valid_len-IsValidUpTo, IsUtf8-nil}
use Rattle.std.proofs.lemmas.List.{take_all}
use borrow.Author.Tests.{ltb-true, ltb-false, leb-true, leb-false}
use Rattle.tag_text.specs.Pieces.{Piece, piece_at}
use Rattle.tag_text.specs.declared.tag.TagFault.TheVariants as fault
use Rattle.tag_text.specs.Document.{Left, State, Step, Goes, Stops, place_of, is_empty, is_inside, is_whole, bad, judged, step, left_of, start_of, outcome_of}
use Rattle.tag_text.specs.Giving.{after_tags}
use Rattle.tag_text.specs.Grammar.{IsPiece, IsLeft, Whole, Next, Misplaced, NoPiece, IsDocument}
use Rattle.tag_text.proofs.PieceLemmas.{piece_less}
use Rattle.tag_text.proofs.GrammarLemmas.{both, piece_is, is_piece}
use Rattle.tag_text.proofs.DocumentLemmas.{step_less, left_goes, left_stops}
use Rattle.tag_text.proofs.ScanLemmas.{well_formed, ill_formed}

-- the next step, by whether the document is whole and which piece is there
pub step_by : (s : State) (b : Bool) (o : Option (Piece × List ℕ)) → is_whole s ≡ b → piece_at (is_inside s) s.rest ≡ o
    → step s ≡ cond b (Stops None) (option_map_or (λ found. judged s found.0 found.1) o (bad s))
unfolding step
step_by s b o whole piece = rw (whole, piece) refl

no_rest : (octets : List ℕ) → is_empty octets ≡ true → octets ≡ []
no_rest [] is = refl
no_rest (octet ∷ octets) is = cc is

-- where the document is whole no piece is left
whole_has_none : (s : State) (found : Piece × List ℕ) → is_whole s ≡ true → piece_at (is_inside s) s.rest ≡ Some found
    → ⊥
whole_has_none s found whole piece =
    let parts = both (is_empty s.rest && s.begun) (is_empty s.opened) whole in
    let none : s.rest ≡ [] = no_rest s.rest (both (is_empty s.rest) s.begun parts.0).0 in
    absurd (omega (arith, piece_less (is_inside s) s.rest found piece, ap length none))

whole_test : (s : State) (b : Bool) (found : Piece × List ℕ) → is_whole s ≡ b
    → piece_at (is_inside s) s.rest ≡ Some found → step s ≡ judged s found.0 found.1
whole_test s true found whole piece = absurd (whole_has_none s found whole piece)
whole_test s false found whole piece = step_by s false (Some found) whole piece

pub step_is : (s : State) (p : Piece) (rest : List ℕ) → IsPiece (is_inside s) s.rest rest p → step s ≡ judged s p rest
step_is s p rest piece = whole_test s (is_whole s) (p, rest) refl (piece_is (is_inside s) s.rest rest p piece)

no_piece_case : (s : State) (o : Option (Piece × List ℕ)) → is_whole s ≡ false → piece_at (is_inside s) s.rest ≡ o
    → ((p : Piece) (rest : List ℕ) → IsPiece (is_inside s) s.rest rest p → ⊥) → step s ≡ bad s
no_piece_case s None whole piece none = step_by s false None whole piece
no_piece_case s (Some found) whole piece none =
    absurd (none found.0 found.1 (is_piece (is_inside s) s.rest found piece))

-- what the grammar has is what is read
pub left_is : (s : State) (left : Left) → IsLeft s left → left ≡ left_of s
left_is s left (Whole whole) = sym (left_stops s None (step_by s true (piece_at (is_inside s) s.rest) whole refl))
left_is s left (Next {next = next} {tags = tags} {later = later} p rest piece goes more) =
    ap (λ (left' : Left). after_tags tags left') (left_is next later more)
    ∙ sym (left_goes s next tags (step_is s p rest piece ∙ goes))
left_is s left (Misplaced {fault = fault} p rest piece stops) =
    sym (left_stops s fault (step_is s p rest piece ∙ stops))
left_is s left (NoPiece whole none) =
    sym (left_stops s (Some (fault.Bad (place_of s))) (no_piece_case s (piece_at (is_inside s) s.rest) whole refl none))

goes_case : (n : ℕ) (s : State) (found : Piece × List ℕ) (next : Step) → piece_at (is_inside s) s.rest ≡ Some found
    → judged s found.0 found.1 ≡ next
    → ((later : State) → length later.rest < n → IsLeft later (left_of later)) → length s.rest < suc n
    → IsLeft s (left_of s)
goes_case n s found (Goes tags next) piece is later small =
    let there : IsPiece (is_inside s) s.rest found.1 found.0 = is_piece (is_inside s) s.rest found piece in
    let goes : step s ≡ Goes tags next = step_is s found.0 found.1 there ∙ is in
    let P : Left → Type 0 = λ left. IsLeft s left in
    subst P (sym (left_goes s next tags goes)) (Next found.0 found.1 there is
    (later next (omega (arith, step_less s next tags goes, small))))
goes_case n s found (Stops fault) piece is later small =
    let there : IsPiece (is_inside s) s.rest found.1 found.0 = is_piece (is_inside s) s.rest found piece in
    let P : Left → Type 0 = λ left. IsLeft s left in
    subst P (sym (left_stops s fault (step_is s found.0 found.1 there ∙ is))) (Misplaced found.0 found.1 there is)

left_case : (n : ℕ) (s : State) (b : Bool) (o : Option (Piece × List ℕ)) → is_whole s ≡ b
    → piece_at (is_inside s) s.rest ≡ o
    → ((later : State) → length later.rest < n → IsLeft later (left_of later)) → length s.rest < suc n
    → IsLeft s (left_of s)
left_case n s true o whole piece later small =
    let P : Left → Type 0 = λ left. IsLeft s left in
    subst P (sym (left_stops s None (step_by s true o whole piece))) (Whole whole)
left_case n s false None whole piece later small =
    let P : Left → Type 0 = λ left. IsLeft s left in
    subst P (sym (left_stops s (Some (fault.Bad (place_of s))) (step_by s false None whole piece)))
    (NoPiece whole (λ p rest there. cc (piece, piece_is (is_inside s) s.rest rest p there)))
left_case n s false (Some found) whole piece later small =
    goes_case n s found (judged s found.0 found.1) piece refl later small

-- and what is read the grammar has
is_left_within : (n : ℕ) (s : State) → length s.rest < n → IsLeft s (left_of s)
is_left_within zero s small = absurd (omega (arith, small))
is_left_within (suc n) s small =
    left_case n s (is_whole s) (piece_at (is_inside s) s.rest) refl refl (is_left_within n) small

pub is_left : (s : State) → IsLeft s (left_of s)
is_left s = is_left_within (suc (length s.rest)) s (omega arith)

-- the longest front of at most n octets that is UTF-8
record IsLongestUtf8 (octets : List ℕ) (n v : ℕ) : Type 0 where
  within : v ≤ n
  front : IsUtf8 (take v octets)
  longest : (m : ℕ) → v < m → m ≤ n → IsUtf8 (take m octets) → ⊥

last_or_less : (m n : ℕ) (b : Bool) → nat_le m n ≡ b → m ≤ suc n → (m ≤ n) ⊎ (m ≡ suc n)
last_or_less m n true is small = inl (leb-true m n is)
last_or_less m n false is small = inr (omega (arith, small, leb-false m n is))

longest_case : (octets : List ℕ) (n : ℕ) (b : Bool) → is_utf8 (take (suc n) octets) ≡ b
    → IsLongestUtf8 octets n (valid_len_up_to octets n)
    → IsLongestUtf8 octets (suc n) (cond b (suc n) (valid_len_up_to octets n))
longest_case octets n true is less = record {
  within = omega arith;
  front = IsUtf8-from_is_utf8 (take (suc n) octets) is;
  longest = λ m above below. absurd (omega (arith, above, below));
}
longest_case octets n false is less = record {
  within = omega (arith, less.within);
  front = less.front;
  longest = λ m above below utf8. elim (last_or_less m n (nat_le m n) refl below) [
    | inl small ↦ less.longest m above small utf8
    | inr last ↦ (let U : ℕ → Type 0 = λ k. IsUtf8 (take k octets) in
        cc (is, is_utf8-from_IsUtf8 (take (suc n) octets) (subst U last utf8)))
  ];
}

longest_utf8 : (octets : List ℕ) (n : ℕ) → IsLongestUtf8 octets n (valid_len_up_to octets n)
longest_utf8 octets zero = record {
  within = omega arith;
  front = IsUtf8-nil;
  longest = λ m above below. absurd (omega (arith, above, below));
}
longest_utf8 octets (suc n) = longest_case octets n (is_utf8 (take (suc n) octets)) refl (longest_utf8 octets n)

not_utf8 : (octets : List ℕ) (m : ℕ) → is_utf8 octets ≡ false → length octets ≤ m → IsUtf8 (take m octets) → ⊥
not_utf8 octets m ill long utf8 =
    let U : List ℕ → Type 0 = λ part. IsUtf8 part in
    cc (ill, is_utf8-from_IsUtf8 octets (subst U (take_all m octets long) utf8))

short_test : (octets : List ℕ) (v : ℕ) (b : Bool) → nat_lt v (length octets) ≡ b → is_utf8 octets ≡ false
    → IsUtf8 (take v octets) → v < length octets
short_test octets v true is ill front = ltb-true v (length octets) is
short_test octets v false is ill front = absurd (not_utf8 octets v ill (ltb-false v (length octets) is) front)

longer_test : (octets : List ℕ) (v m : ℕ) (b : Bool) → nat_le m (length octets) ≡ b → is_utf8 octets ≡ false
    → IsLongestUtf8 octets (length octets) v → v < m → IsUtf8 (take m octets) → ⊥
longer_test octets v m true is ill most above utf8 = most.longest m above (leb-true m (length octets) is) utf8
longer_test octets v m false is ill most above utf8 =
    not_utf8 octets m ill (omega (arith, leb-false m (length octets) is)) utf8

-- a text that is not UTF-8 has a longest front that is
pub is_valid_up_to : (octets : List ℕ) → is_utf8 octets ≡ false → IsValidUpTo octets (utf8_valid_len octets)
unfolding utf8_valid_len
is_valid_up_to octets ill =
    let v : ℕ = valid_len_up_to octets (length octets) in
    let most = longest_utf8 octets (length octets) in
    record {
      short = short_test octets v (nat_lt v (length octets)) refl ill most.front;
      front = most.front;
      longest = λ m above utf8. longer_test octets v m (nat_le m (length octets)) refl ill most above utf8;
    }

pub document_is : (octets : List ℕ) (left : Left) → IsDocument octets left → left ≡ outcome_of octets
document_is octets left (inl well) = left_is (start_of octets) left well.1 ∙ sym (well_formed octets well.0)
document_is octets left (inr ill) =
    ill.2 ∙ sym (ill_formed octets ill.0 ill.1 (sym (utf8_valid_len-IsValidUpTo octets ill.0 ill.1)))

document_case : (octets : List ℕ) (b : Bool) → is_utf8 octets ≡ b → IsDocument octets (outcome_of octets)
document_case octets true is =
    let utf8 = IsUtf8-from_is_utf8 octets is in
    let P : Left → Type 0 = λ left. IsLeft (start_of octets) left in
    inl (utf8, subst P (sym (well_formed octets utf8)) (is_left (start_of octets)))
document_case octets false is =
    inr (
      utf8_valid_len octets,
      is_valid_up_to octets is,
      ill_formed octets (utf8_valid_len octets)
          (is_valid_up_to octets is) refl,
    )

pub is_document : (octets : List ℕ) → IsDocument octets (outcome_of octets)
is_document octets = document_case octets (is_utf8 octets) refl
