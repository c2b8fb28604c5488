-- Statement: the grammar of element documents. Each rule says of a text that it is a part of the grammar and then the
-- rest.
use Rattle.std.specs.Prelude.{◌≡◌, ℕ, ◌<◌, Bool, true, false, List, [], ◌∷◌, ◌++◌, length, codes, Option, Some, None, ◌⊎◌}
use Rattle.std.specs.List.{list_all, list_any}
use Rattle.std.specs.Str.{IsUtf8, IsValidUpTo}
use Rattle.std.specs.Str.Pattern.{LacksTextAt}
use Rattle.tag_text.specs.Octets.{is_blank, is_octet, is_name_octet, begins_name, BeginsOther}
use Rattle.tag_text.specs.Values.{is_quote, value_of}
use Rattle.tag_text.specs.Attributes.{are_distinct}
use Rattle.tag_text.specs.Pieces.{Piece, Start, Empty, End, Skipped, is_text_octet}
use Rattle.tag_text.specs.Document.{Left, State, Goes, Stops, place_of, is_inside, is_whole, judged, start_of}
use Rattle.tag_text.specs.Giving.{after_tags, only}
use Rattle.tag_text.specs.declared.tag.Tag.{Tag}
use Rattle.tag_text.specs.declared.tag.TagFault.{TagFault}
use Rattle.tag_text.specs.declared.tag.TagFault.TheVariants as fault

abbrev pub IsBlanks : List ℕ → Type 0
IsBlanks blanks = list_all is_blank blanks ≡ true

pub record IsName (name : List ℕ) : Type 0 where
  pub start : begins_name name ≡ true
  pub octets : list_all is_name_octet name ≡ true

-- blanks, a name, `=` with blanks on both sides, and a value in quotes that holds neither the quote nor `<`
pub record IsAttribute (text rest name value : List ℕ) : Type 0 where
  pub first : ℕ
  pub blanks : List ℕ
  pub before : List ℕ
  pub after : List ℕ
  pub quote : ℕ
  pub raw : List ℕ
  pub spelled : text ≡ first ∷ blanks ++ (name ++ (before ++ 61 ∷ (after ++ quote ∷ (raw ++ quote ∷ rest))))
  pub separated : IsBlanks (first ∷ blanks)
  pub named : IsName name
  pub blank_before : IsBlanks before
  pub blank_after : IsBlanks after
  pub quoted : is_quote quote ≡ true
  pub no_quote : list_any (is_octet quote) raw ≡ false
  pub no_tag : list_any (is_octet 60) raw ≡ false
  pub value_is : value_of raw ≡ Some value

-- attributes, one after the other
pub data IsAttributes (rest : List ℕ) : List ℕ → List (List ℕ × List ℕ) → Type 0 where
  NoMore : IsAttributes rest rest []
  OneMore : {text middle name value : List ℕ} {attributes : List (List ℕ × List ℕ)} → IsAttribute text middle name value
      → IsAttributes rest middle attributes → IsAttributes rest text ((name, value) ∷ attributes)

-- the end of a start tag, or of an empty-element tag
abbrev pub tag_end : Bool → List ℕ
tag_end true = codes "/>"
tag_end false = codes ">"

-- a start tag, or an empty-element tag, that repeats no attribute
pub record IsTag (text rest : List ℕ) (empty : Bool) (name : List ℕ)
    (attributes : List (List ℕ × List ℕ)) : Type 0 where
  pub body : List ℕ
  pub blanks : List ℕ
  pub spelled : text ≡ 60 ∷ (name ++ body)
  pub named : IsName name
  pub attributed : IsAttributes (blanks ++ (tag_end empty ++ rest)) body attributes
  pub blank : IsBlanks blanks
  pub distinct : are_distinct attributes ≡ true

pub record IsEndTag (text rest name : List ℕ) : Type 0 where
  pub blanks : List ℕ
  pub spelled : text ≡ 60 ∷ 47 ∷ (name ++ (blanks ++ 62 ∷ rest))
  pub named : IsName name
  pub blank : IsBlanks blanks

-- from an opening mark to the next closing mark after it
pub record IsEnclosed (opening closing text rest : List ℕ) : Type 0 where
  pub content : List ℕ
  pub spelled : text ≡ opening ++ (content ++ (closing ++ rest))
  pub next : (k : ℕ) → k < length content → LacksTextAt closing (content ++ (closing ++ rest)) k

-- the longest run of octets that pass the test, one at least
pub record IsLongest (test : ℕ → Bool) (text rest : List ℕ) : Type 0 where
  pub first : ℕ
  pub others : List ℕ
  pub spelled : text ≡ first ∷ (others ++ rest)
  pub pass : list_all test (first ∷ others) ≡ true
  pub longest : BeginsOther test rest

-- inside the root element any octet but `<` is text, outside it blanks alone may stand
abbrev pub text_test : Bool → ℕ → Bool
text_test true = is_text_octet
text_test false = is_blank

-- the text is this piece, inside the root element or outside it, and then the rest
abbrev pub IsPiece : Bool → List ℕ → List ℕ → Piece → Type 0
IsPiece inside text rest (Start name attributes) = IsTag text rest false name attributes
IsPiece inside text rest (Empty name attributes) = IsTag text rest true name attributes
IsPiece inside text rest (End name) = IsEndTag text rest name
IsPiece inside text rest Skipped =
    IsEnclosed (codes "<?") (codes "?>") text rest ⊎ (IsEnclosed (codes "<!--") (codes "-->") text rest
    ⊎ IsLongest (text_test inside) text rest)

-- what is left where the document stands so: one piece gives its tags and the rest follows, or it is one that may not
-- stand here, or none stands here, or the document is whole
pub data IsLeft : State → Left → Type 0 where
  Whole : {s : State} → is_whole s ≡ true → IsLeft s (only None)
  Next : {s next : State} {tags : List Tag} {later : Left} (p : Piece) (rest : List ℕ)
      → IsPiece (is_inside s) s.rest rest p
      → judged s p rest ≡ Goes tags next → IsLeft next later → IsLeft s (after_tags tags later)
  Misplaced : {s : State} {fault : Option TagFault} (p : Piece) (rest : List ℕ) → IsPiece (is_inside s) s.rest rest p
      → judged s p rest ≡ Stops fault → IsLeft s (only fault)
  NoPiece : {s : State} → is_whole s ≡ false → ((p : Piece) (rest : List ℕ) → IsPiece (is_inside s) s.rest rest p → ⊥)
      → IsLeft s (only (Some (fault.Bad (place_of s))))

-- a document with what it gives: the starts and ends of its pieces in order, and the fault after them, if it has one.
-- One that is not UTF-8 gives the place of the first ill-formed octets and nothing before it
abbrev pub IsDocument : List ℕ → Left → Type 0
IsDocument octets left =
    (IsUtf8 octets × IsLeft (start_of octets) left)
    ⊎ ((place : ℕ) × IsValidUpTo octets place × (left ≡ only (Some (fault.Utf8 place))))
