-- No document is refused for want of memory.
use Rattle.std.proofs.Common.{ℕ, zero, suc, ◌+◌, ◌==◌, List, [], ◌∷◌, length, Option, Some, None, IfSome}
use Rattle.std.specs.Option.{option_map_or}
use Rattle.std.specs.Str.{bytes_eq}
use Rattle.std.specs.Str.Lossy.{utf8_valid_len}
use Rattle.tag_text.specs.declared.tag.Tag.{Tag}
use Rattle.tag_text.specs.declared.tag.TagFault.{TagFault}
use Rattle.tag_text.specs.declared.tag.TagFault.TheVariants.{NoMemory}
use Rattle.tag_text.specs.Pieces.{Piece, piece_at}
use Rattle.tag_text.specs.Pieces as piece
use Rattle.tag_text.specs.Document.{Left, State, Step, Goes, Stops, may_begin, has_room, is_inside, is_whole, bad, begins, ends, judged, step, left_after, left_within, left_of, start_of, outcome_of, document_fault}
use Rattle.knxsec_app.proofs.Firsts.{chosen}

-- a fault of what the document says
abbrev pub IsOfDocument : TagFault → Type 0
IsOfDocument NoMemory = ⊥
IsOfDocument _ = Unit {0}

-- a piece goes on, or stops the document by such a fault
abbrev StopsRightly : Step → Type 0
StopsRightly (Goes tags state) = Unit {0}
StopsRightly (Stops fault) = IfSome fault IsOfDocument

begins_so : (s : State) (tags : List Tag) (opened : List (List ℕ)) (after : List ℕ)
    → StopsRightly (begins s tags opened after)
begins_so s tags opened after =
    chosen StopsRightly (may_begin s) _ _ (chosen StopsRightly (has_room s) _ _ tt tt) tt

ends_so : (s : State) (opened : List (List ℕ)) (name after : List ℕ) → StopsRightly (ends s opened name after)
ends_so s [] name after = tt
ends_so s (innermost ∷ opened) name after = chosen StopsRightly (bytes_eq innermost name) _ _ tt tt

judged_so : (s : State) (this : Piece) (after : List ℕ) → StopsRightly (judged s this after)
judged_so s (piece.Start name attributes) after = begins_so s _ (name ∷ s.opened) after
judged_so s (piece.Empty name attributes) after = begins_so s _ s.opened after
judged_so s (piece.End name) after = ends_so s s.opened name after
judged_so s piece.Skipped after = tt

found_so : (s : State) (found : Option (Piece × List ℕ))
    → StopsRightly (option_map_or (λ found. judged s found.0 found.1) found (bad s))
found_so s None = tt
found_so s (Some found) = judged_so s found.0 found.1

step_so : (s : State) → StopsRightly (step s)
unfolding step
step_so s = chosen StopsRightly (is_whole s) _ _ tt (found_so s (piece_at (is_inside s) s.rest))

after_so : (this : Step) (later : State → Left) → StopsRightly this
    → ((s : State) → IfSome (later s).fault IsOfDocument) → IfSome (left_after this later).fault IsOfDocument
after_so (Goes tags state) later here each = each state
after_so (Stops fault) later here each = here

within_so : (most : ℕ) (s : State) → IfSome (left_within most s).fault IsOfDocument
within_so zero s = tt
within_so (suc most) s = after_so (step s) (left_within most) (step_so s) (within_so most)

left_so : (s : State) → IfSome (left_of s).fault IsOfDocument
unfolding left_of
left_so s = within_so (length s.rest + 1) s

pub document_so : (octets : List ℕ) → IfSome (document_fault octets) IsOfDocument
unfolding outcome_of
document_so octets =
    chosen (λ (left : Left). IfSome left.fault IsOfDocument) (utf8_valid_len octets == length octets) _ _
    (left_so (start_of octets)) tt
