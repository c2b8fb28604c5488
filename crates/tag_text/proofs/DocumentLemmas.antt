-- What is left of a document, one piece after the other.
use Rattle.std.proofs.Common.{◌≡◌, ℕ, zero, suc, ◌+◌, ◌<◌, Bool, true, false, cond, List, [], ◌∷◌, ◌++◌, length, Option, Some, None, arith, ap, ◌∙◌, refl, subst, add-one}
use Rattle.std.specs.Option.{option_map_or}
use Rattle.std.specs.Str.{bytes_eq}
use Rattle.tag_text.specs.Pieces.{Piece, piece_at}
use Rattle.tag_text.specs.Pieces as piece
use Rattle.tag_text.specs.declared.tag.Tag.{Tag}
use Rattle.tag_text.specs.declared.tag.Tag.TheVariants as tag
use Rattle.tag_text.specs.declared.tag.TagFault.{TagFault}
use Rattle.tag_text.specs.declared.tag.TagFault.TheVariants as fault
use Rattle.tag_text.specs.Document.{Left, State, Step, Goes, Stops, place_of, is_inside, is_whole, may_begin, has_room, bad, begins, ends, judged, step, left_after, left_within, left_of}
use Rattle.tag_text.proofs.PieceLemmas.{piece_less}

-- a step that goes on leaves so many octets
GoesTo : Step → ℕ → Type 0
GoesTo (Goes tags state) n = length state.rest ≡ n
GoesTo (Stops fault) n = Unit {0}

goes_either : (b : Bool) (x y : Step) (n : ℕ) → GoesTo x n → GoesTo y n → GoesTo (cond b x y) n
goes_either true x y n first second = first
goes_either false x y n first second = second

begins_to : (s : State) (tags : List Tag) (opened : List (List ℕ)) (after : List ℕ)
    → GoesTo (begins s tags opened after) (length after)
unfolding GoesTo
begins_to s tags opened after =
    goes_either (may_begin s) (cond (has_room s) (Goes tags (record {
      total = s.total;
      opened = opened;
      begun = true;
      rest = after;
    })) (Stops (Some (fault.Deep (place_of s))))) (bad s) (length after)
    (goes_either (has_room s) (Goes tags (record { total = s.total; opened = opened; begun = true; rest = after }))
    (Stops (Some (fault.Deep (place_of s)))) (length after) refl tt) tt

ends_to : (s : State) (opened : List (List ℕ)) (name after : List ℕ) → GoesTo (ends s opened name after) (length after)
unfolding GoesTo
ends_to s [] name after = tt
ends_to s (innermost ∷ opened) name after =
    goes_either (bytes_eq innermost name) (Goes (tag.End (place_of s) ∷ [])
    (record { total = s.total; opened = opened; begun = s.begun; rest = after })) (bad s) (length after) refl tt

judged_to : (s : State) (p : Piece) (after : List ℕ) → GoesTo (judged s p after) (length after)
unfolding GoesTo
judged_to s (piece.Start name attributes) after =
    begins_to s (tag.Start name attributes (place_of s) ∷ []) (name ∷ s.opened) after
judged_to s (piece.Empty name attributes) after =
    begins_to s (tag.Start name attributes (place_of s) ∷ tag.End (place_of s) ∷ []) s.opened after
judged_to s (piece.End name) after = ends_to s s.opened name after
judged_to s piece.Skipped after = refl

step_case : (s next : State) (tags : List Tag) (b : Bool) (o : Option (Piece × List ℕ))
    → ((found : Piece × List ℕ) → o ≡ Some found → length found.1 < length s.rest)
    → cond b (Stops None) (option_map_or (λ found. judged s found.0 found.1) o (bad s)) ≡ Goes tags next
    → length next.rest < length s.rest
unfolding GoesTo
step_case s next tags true o less is = cc is
step_case s next tags false None less is = cc is
step_case s next tags false (Some found) less is =
    let P : Step → Type 0 = λ step'. GoesTo step' (length found.1) in
    let leads : GoesTo (Goes tags next) (length found.1) = subst P is (judged_to s found.0 found.1) in
    omega (arith, less found refl, leads)

-- a step that goes on leaves fewer octets
pub step_less : (s next : State) (tags : List Tag) → step s ≡ Goes tags next → length next.rest < length s.rest
unfolding step
step_less s next tags found = step_case s next tags (is_whole s) (piece_at (is_inside s) s.rest)
    (λ piece is. piece_less (is_inside s) s.rest piece is) found

left_same : (m n : ℕ) (s : State) (next : Step) → step s ≡ next
    → ((tags : List Tag) (state : State) → next ≡ Goes tags state → left_within m state ≡ left_within n state)
    → left_after next (left_within m) ≡ left_after next (left_within n)
left_same m n s (Goes tags state) is same =
    ap (λ (later : Left). record { tags = tags ++ later.tags; fault = later.fault }) (same tags state refl)
left_same m n s (Stops fault) is same = refl

-- a greater bound changes nothing
left_enough : (m n : ℕ) (s : State) → length s.rest < m → length s.rest < n → left_within m s ≡ left_within n s
left_enough zero n s small large = absurd (omega (arith, small))
left_enough (suc m) zero s small large = absurd (omega (arith, large))
left_enough (suc m) (suc n) s small large =
    left_same m n s (step s) refl (λ tags state is. left_enough m n state
    (omega (arith, small, step_less s state tags is)) (omega (arith, large, step_less s state tags is)))

left_then : (m : ℕ) (s : State) (next : Step) → ((tags : List Tag) (state : State) → next ≡ Goes tags state
    → left_within m state ≡ left_of state)
    → left_after next (left_within m) ≡ left_after next left_of
left_then m s (Goes tags state) same =
    ap (λ (later : Left). record { tags = tags ++ later.tags; fault = later.fault }) (same tags state refl)
left_then m s (Stops fault) same = refl

-- one step, and what is left after it
pub left_step : (s : State) → left_of s ≡ left_after (step s) left_of
unfolding left_of
left_step s =
    rw (add-one (length s.rest))
    (left_then (length s.rest) s (step s)
    (λ tags state is. left_enough (length s.rest) (length state.rest + 1) state (step_less s state tags is)
    (omega arith)))

-- where the document goes on, what is left is the tags of the piece and then the rest
pub left_goes : (s next : State) (tags : List Tag) → step s ≡ Goes tags next
    → left_of s ≡ record { tags = tags ++ (left_of next).tags; fault = (left_of next).fault }
left_goes s next tags goes = left_step s ∙ ap (λ (taken : Step). left_after taken left_of) goes

-- where it stops, nothing is left but that
pub left_stops : (s : State) (fault : Option TagFault) → step s ≡ Stops fault
    → left_of s ≡ record { tags = []; fault = fault }
left_stops s fault stops = left_step s ∙ ap (λ (taken : Step). left_after taken left_of) stops
