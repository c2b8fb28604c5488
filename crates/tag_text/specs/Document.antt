-- Statement: a document as the tags of its pieces, and the fault that ends it.
use Rattle.std.specs.Prelude.{ℕ, zero, suc, ◌+◌, ◌-◌, ◌==◌, nat_lt, ◌&&◌, ◌||◌, not, Bool, true, false, if◌then◌else◌, List, [], ◌∷◌, ◌++◌, length, unwrap_or, Option, Some, None}
use Rattle.std.specs.Option.{option_map_or}
use Rattle.std.specs.Str.{bytes_eq}
use Rattle.std.specs.Str.Lossy.{utf8_valid_len}
use Rattle.tag_text.specs.Octets.{after_mark}
use Rattle.tag_text.specs.Pieces.{Piece, piece_at}
use Rattle.tag_text.specs.Pieces as piece
use Rattle.tag_text.specs.declared.tag.Tag.{Tag}
use Rattle.tag_text.specs.declared.tag.Tag.TheVariants as tag
use Rattle.tag_text.specs.declared.tag.TagFault.{TagFault}
use Rattle.tag_text.specs.declared.tag.TagFault.TheVariants as fault

-- how many elements may be open
abbrev pub most_open : ℕ
most_open = 32

-- what is still to be given: tags, and then a fault, or the end of the document
pub record Left : Type 0 where
  pub tags : List Tag
  pub fault : Option TagFault

-- where in a document a reader stands
pub record State : Type 0 where
  -- the octets of the whole document
  pub total : ℕ
  -- the names of the open elements, the innermost first
  pub opened : List (List ℕ)
  -- the root element was begun
  pub begun : Bool
  -- what is left to be read
  pub rest : List ℕ

abbrev pub place_of : State → ℕ
place_of s = s.total - length s.rest

abbrev pub is_empty : {A : Type 0} → List A → Bool
is_empty [] = true
is_empty (x ∷ xs) = false

-- inside the root element
abbrev pub is_inside : State → Bool
is_inside s = not (is_empty s.opened)

-- one piece gives tags and leads to another state, or the document stops
pub data Step : Type 0 where
  Goes : (tags : List Tag) (state : State) → Step
  Stops : (fault : Option TagFault) → Step

-- no piece that may stand here does
abbrev pub bad : State → Step
bad s = Stops (Some (fault.Bad (place_of s)))

-- a tag may begin an element here: inside the root element, or as the root
abbrev pub may_begin : State → Bool
may_begin s = is_inside s || not s.begun

-- one more element may be open
abbrev pub has_room : State → Bool
has_room s = nat_lt (length s.opened) most_open

-- an element begins, and leaves these elements open
abbrev pub begins : State → List Tag → List (List ℕ) → List ℕ → Step
begins s tags opened after =
    if may_begin s
    then (if has_room s
    then Goes tags (record { total = s.total; opened = opened; begun = true; rest = after })
    else Stops (Some (fault.Deep (place_of s))))
    else bad s

-- the innermost of the open elements ends, if it has this name
abbrev pub ends : State → List (List ℕ) → List ℕ → List ℕ → Step
ends s [] name after = bad s
ends s (innermost ∷ opened) name after =
    if bytes_eq innermost name
    then Goes (tag.End (place_of s) ∷ []) (record { total = s.total; opened = opened; begun = s.begun; rest = after })
    else bad s

-- what a piece does
abbrev pub judged : State → Piece → List ℕ → Step
judged s (piece.Start name attributes) after =
    begins s (tag.Start name attributes (place_of s) ∷ []) (name ∷ s.opened) after
judged s (piece.Empty name attributes) after =
    begins s (tag.Start name attributes (place_of s) ∷ tag.End (place_of s) ∷ []) s.opened after
judged s (piece.End name) after = ends s s.opened name after
judged s piece.Skipped after = Goes [] (record { total = s.total; opened = s.opened; begun = s.begun; rest = after })

-- the document may end here
abbrev pub is_whole : State → Bool
is_whole s = is_empty s.rest && s.begun && is_empty s.opened

-- the next piece
unfoldable pub step : State → Step
step s =
    if is_whole s then Stops None
    else option_map_or (λ found. judged s found.0 found.1) (piece_at (is_inside s) s.rest) (bad s)

-- what one piece gives, and then what is left after it
abbrev pub left_after : Step → (State → Left) → Left
left_after (Goes tags state) later = record { tags = tags ++ (later state).tags; fault = (later state).fault }
left_after (Stops fault) later = record { tags = []; fault = fault }

-- what is left, of at most so many pieces
abbrev pub left_within : ℕ → State → Left
left_within zero s = record { tags = []; fault = Some (fault.Bad (place_of s)) }
left_within (suc most) s = left_after (step s) (left_within most)

-- what is left: each piece takes an octet at least
unfoldable pub left_of : State → Left
left_of s = left_within (length s.rest + 1) s

-- what follows a byte order mark, if there is one
abbrev pub after_order_mark : List ℕ → List ℕ
after_order_mark octets = unwrap_or (after_mark (0xEF ∷ 0xBB ∷ 0xBF ∷ []) octets) octets

-- before the first piece
abbrev pub start_of : List ℕ → State
start_of octets = record { total = length octets; opened = []; begun = false; rest = after_order_mark octets }

-- all that a document gives; one that is not UTF-8 gives the place of the first ill-formed sequence and nothing before
unfoldable pub outcome_of : List ℕ → Left
outcome_of octets =
    if utf8_valid_len octets == length octets then left_of (start_of octets)
    else record { tags = []; fault = Some (fault.Utf8 (utf8_valid_len octets)) }

-- the starts and ends of a document's pieces, in order
abbrev pub events_of : List ℕ → List Tag
events_of octets = (outcome_of octets).tags

-- the fault of a document, if it has one
abbrev pub document_fault : List ℕ → Option TagFault
document_fault octets = (outcome_of octets).fault
