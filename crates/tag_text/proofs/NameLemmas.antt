-- No tag of a document names an attribute twice.
use Rattle.std.proofs.Common.{◌≡◌, ℕ, zero, suc, ◌+◌, ◌<◌, ◌==◌, Bool, true, false, cond, ◌||◌, List, [], ◌∷◌, ◌++◌, length, get_or, Option, Some, None, arith, ap, sym, refl, subst}
use Rattle.std.specs.Option.{option_map_or}
use Rattle.std.specs.List.{All, list_any}
use Rattle.std.specs.Str.{bytes_eq}
use Rattle.std.specs.Str.Lossy.{utf8_valid_len}
use Rattle.std.proofs.lemmas.List.Elements.{All-nil, All-cons, All-head, All-append}
use Rattle.std.proofs.lemmas.Slice.Eq.{bytes_eq-Decides}
use Rattle.tag_text.specs.Attributes.{are_distinct}
use Rattle.tag_text.specs.Names.{DifferInName, NamesOnce}
use Rattle.tag_text.specs.Pieces.{Piece, piece_at}
use Rattle.tag_text.specs.Pieces as piece
use Rattle.tag_text.specs.declared.scan.Given.{Given}
use Rattle.tag_text.specs.declared.tag.Tag.{Tag}
use Rattle.tag_text.specs.declared.tag.Tag.TheVariants as tag
use Rattle.tag_text.specs.declared.tag.TagFault.TheVariants as fault
use Rattle.tag_text.specs.Document.{Left, State, Step, Goes, Stops, place_of, is_inside, is_whole, may_begin, has_room, bad, begins, ends, judged, step, left_after, left_within, left_of, start_of, outcome_of, events_of}
use Rattle.tag_text.specs.Grammar.{IsPiece}
use Rattle.tag_text.specs.Scan.{TakesTag, end_of}
use Rattle.tag_text.specs.Giving.{only}
use Rattle.tag_text.proofs.GrammarLemmas.{is_piece}

first_differs : (name : List ℕ) (first : List ℕ × List ℕ) (attributes : List (List ℕ × List ℕ)) (b : Bool)
    → bytes_eq first.0 name ≡ b
    → list_any (λ other. bytes_eq other.0 name) (first ∷ attributes) ≡ false → first.0 ≡ name → ⊥
first_differs name first attributes true is none same =
    cc (none, ap (λ (b : Bool). b || list_any (λ other. bytes_eq other.0 name) attributes) is)
first_differs name first attributes false is none same = cc (is, (bytes_eq-Decides first.0 name).1 same)

later_none : (b rest : Bool) → (b || rest) ≡ false → rest ≡ false
later_none true rest none = cc none
later_none false rest none = none

-- no other has the name
others_differ : (name : List ℕ) (attributes : List (List ℕ × List ℕ))
    → list_any (λ other. bytes_eq other.0 name) attributes ≡ false
    → (j : ℕ) (attribute : List ℕ × List ℕ) → j < length attributes → name ≡ (get_or attributes j attribute).0 → ⊥
others_differ name [] none j attribute within same = absurd (omega (arith, within))
others_differ name (first ∷ attributes) none zero attribute within same =
    first_differs name first attributes (bytes_eq first.0 name) refl none (sym same)
others_differ name (first ∷ attributes) none (suc j) attribute within same =
    others_differ name attributes (later_none (bytes_eq first.0 name)
    (list_any (λ other. bytes_eq other.0 name) attributes) none) j attribute (omega (arith, within)) same

distinct_case : (first : List ℕ × List ℕ) (attributes : List (List ℕ × List ℕ)) (b : Bool)
    → list_any (λ other. bytes_eq other.0 first.0) attributes ≡ b
    → cond b false (are_distinct attributes) ≡ true → (list_any (λ other. bytes_eq other.0 first.0) attributes ≡ false)
    × (are_distinct attributes ≡ true)
distinct_case first attributes true is distinct = cc
distinct_case first attributes false is distinct = (is, distinct)

distinct_first : (first : List ℕ × List ℕ) (attributes : List (List ℕ × List ℕ))
    → are_distinct (first ∷ attributes) ≡ true
    → (list_any (λ other. bytes_eq other.0 first.0) attributes ≡ false) × (are_distinct attributes ≡ true)
distinct_first first attributes distinct =
    distinct_case first attributes (list_any (λ other. bytes_eq other.0 first.0) attributes) refl distinct

pub differ : (attributes : List (List ℕ × List ℕ)) → are_distinct attributes ≡ true → DifferInName attributes
differ [] distinct i j attribute before within same = absurd (omega (arith, within))
differ (first ∷ attributes) distinct i zero attribute before within same = absurd (omega (arith, before))
differ (first ∷ attributes) distinct zero (suc j) attribute before within same =
    others_differ first.0 attributes (distinct_first first attributes distinct).0 j attribute (omega (arith, within))
    same
differ (first ∷ attributes) distinct (suc i) (suc j) attribute before within same =
    differ attributes (distinct_first first attributes distinct).1 i j attribute (omega (arith, before))
    (omega (arith, within)) same

-- the tags of a step name no attribute twice
GoesOnce : Step → Type 0
GoesOnce (Goes tags state) = All NamesOnce tags
GoesOnce (Stops fault) = Unit {0}

once_either : (b : Bool) (x y : Step) → GoesOnce x → GoesOnce y → GoesOnce (cond b x y)
once_either true x y first second = first
once_either false x y first second = second

begins_once : (s : State) (tags : List Tag) (opened : List (List ℕ)) (after : List ℕ) → All NamesOnce tags
    → GoesOnce (begins s tags opened after)
unfolding GoesOnce
begins_once s tags opened after once =
    once_either (may_begin s) (cond (has_room s) (Goes tags (record {
      total = s.total;
      opened = opened;
      begun = true;
      rest = after;
    })) (Stops (Some (fault.Deep (place_of s))))) (bad s)
    (once_either (has_room s) (Goes tags (record { total = s.total; opened = opened; begun = true; rest = after }))
    (Stops (Some (fault.Deep (place_of s)))) once tt) tt

ends_once : (s : State) (opened : List (List ℕ)) (name after : List ℕ) → GoesOnce (ends s opened name after)
unfolding GoesOnce
ends_once s [] name after = tt
ends_once s (innermost ∷ opened) name after =
    once_either (bytes_eq innermost name) (Goes (tag.End (place_of s) ∷ [])
    (record { total = s.total; opened = opened; begun = s.begun; rest = after })) (bad s)
    (All-cons NamesOnce (tag.End (place_of s)) [] tt (All-nil NamesOnce)) tt

judged_once : (s : State) (p : Piece) (after : List ℕ) → IsPiece (is_inside s) s.rest after p
    → GoesOnce (judged s p after)
unfolding GoesOnce
judged_once s (piece.Start name attributes) after is =
    begins_once s (tag.Start name attributes (place_of s) ∷ []) (name ∷ s.opened) after
    (All-cons NamesOnce (tag.Start name attributes (place_of s)) [] (differ attributes is.distinct) (All-nil NamesOnce))
judged_once s (piece.Empty name attributes) after is =
    begins_once s (tag.Start name attributes (place_of s) ∷ tag.End (place_of s) ∷ []) s.opened after
    (All-cons NamesOnce (tag.Start name attributes (place_of s)) (tag.End (place_of s) ∷ [])
    (differ attributes is.distinct)
    (All-cons NamesOnce (tag.End (place_of s)) [] tt (All-nil NamesOnce)))
judged_once s (piece.End name) after is = ends_once s s.opened name after
judged_once s piece.Skipped after is = All-nil NamesOnce

found_once : (s : State) (o : Option (Piece × List ℕ)) → piece_at (is_inside s) s.rest ≡ o
    → GoesOnce (option_map_or (λ found. judged s found.0 found.1) o (bad s))
unfolding GoesOnce
found_once s None is = tt
found_once s (Some found) is = judged_once s found.0 found.1 (is_piece (is_inside s) s.rest found is)

step_once : (s : State) → GoesOnce (step s)
unfolding step GoesOnce
step_once s =
    once_either (is_whole s) (Stops None) (option_map_or (λ found. judged s found.0 found.1)
    (piece_at (is_inside s) s.rest) (bad s)) tt
    (found_once s (piece_at (is_inside s) s.rest) refl)

after_once : (n : ℕ) (next : Step) → GoesOnce next → ((s : State) → All NamesOnce (left_within n s).tags)
    → All NamesOnce (left_after next (left_within n)).tags
unfolding GoesOnce
after_once n (Goes tags state) once later = All-append NamesOnce tags (left_within n state).tags once (later state)
after_once n (Stops fault) once later = All-nil NamesOnce

within_once : (n : ℕ) (s : State) → All NamesOnce (left_within n s).tags
within_once zero s = All-nil NamesOnce
within_once (suc n) s = after_once n (step s) (step_once s) (within_once n)

pub left_once : (s : State) → All NamesOnce (left_of s).tags
unfolding left_of
left_once s = within_once (length s.rest + 1) s

outcome_either : (b : Bool) (one other : Left) → All NamesOnce one.tags → All NamesOnce other.tags
    → All NamesOnce (cond b one other).tags
outcome_either true one other first second = first
outcome_either false one other first second = second

pub events_once : (octets : List ℕ) → All NamesOnce (events_of octets)
unfolding outcome_of
events_once octets =
    outcome_either (utf8_valid_len octets == length octets) (left_of (start_of octets))
    (only (Some (fault.Utf8 (utf8_valid_len octets))))
    (left_once (start_of octets)) (All-nil NamesOnce)

first_once : (all : Left) (g : Tag) (tags : List Tag) → All NamesOnce all.tags → all.tags ≡ g ∷ tags → NamesOnce g
first_once all g tags once is = All-head NamesOnce g tags (subst (λ (tags' : List Tag). All NamesOnce tags') is once)

taken_once : (all new : Left) (g : Tag) (ends : List Tag) → All NamesOnce all.tags → TakesTag all new g ends
    → NamesOnce g
taken_once all new (tag.Start name attributes place) ends once takes =
    first_once all (tag.Start name attributes place) (ends ++ new.tags) once (ap (λ (left : Left). left.tags) takes)
taken_once all new (tag.End place) ends once takes = tt
taken_once all new tag.Finish ends once takes = tt

pub given_once : (s : State) (new : Left) (given : Given) → TakesTag (left_of s) new given.tag (end_of given.ended)
    → NamesOnce given.tag
given_once s new given takes = taken_once (left_of s) new given.tag (end_of given.ended) (left_once s) takes
