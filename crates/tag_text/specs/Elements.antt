-- Statement: a whole document as one tree of elements, by the recursive rule of their nesting.
use Rattle.std.specs.Prelude.{ℕ, suc, ◌-◌, true, false, List, [], ◌∷◌, ◌++◌, length}
use Rattle.std.specs.Str.{IsUtf8}
use Rattle.tag_text.specs.Pieces.{Skipped}
use Rattle.tag_text.specs.Grammar.{IsTag, IsEndTag, IsPiece}
use Rattle.tag_text.specs.Document.{most_open, after_order_mark}
use Rattle.tag_text.specs.declared.tag.Tag.{Tag}
use Rattle.tag_text.specs.declared.tag.Tag.TheVariants.{Start, End}

-- In a document of so many octets a text is an element, or content, up to the rest, and gives these tags, each with the
-- number of octets before it as its place. So many levels of elements may stand in one another from here on
mutual
  -- an element: an empty-element tag, or a start tag, content and the end tag of the same name
  pub data IsElement (total : ℕ) : ℕ → List ℕ → List ℕ → List Tag → Type 0 where
    Alone : {levels : ℕ} {text rest name : List ℕ} {attributes : List (List ℕ × List ℕ)}
        → IsTag text rest true name attributes
        → IsElement total (suc levels) text rest (Start name attributes (total - length text)
        ∷ End (total - length text) ∷ [])
    Around : {levels : ℕ} {text inner close rest name : List ℕ} {attributes : List (List ℕ × List ℕ)} {tags : List Tag}
        → IsTag text inner false name attributes → IsContent total levels inner close tags → IsEndTag close rest name
        → IsElement total (suc levels) text rest (Start name attributes (total - length text) ∷ tags
        ++ End (total - length close) ∷ [])

  -- content: elements in turn, with text, instructions and comments around them, which give nothing
  pub data IsContent (total : ℕ) : ℕ → List ℕ → List ℕ → List Tag → Type 0 where
    Nothing : {levels : ℕ} {text : List ℕ} → IsContent total levels text text []
    Skips : {levels : ℕ} {text middle rest : List ℕ} {tags : List Tag} → IsPiece true text middle Skipped
        → IsContent total levels middle rest tags → IsContent total levels text rest tags
    Has : {levels : ℕ} {text middle rest : List ℕ} {tags later : List Tag} → IsElement total levels text middle tags
        → IsContent total levels middle rest later → IsContent total levels text rest (tags ++ later)

-- what may stand around the root element: white space, instructions and comments
pub data IsMargin : List ℕ → List ℕ → Type 0 where
  NoMargin : {text : List ℕ} → IsMargin text text
  Margin : {text middle rest : List ℕ} → IsPiece false text middle Skipped → IsMargin middle rest → IsMargin text rest

-- the octets are UTF-8, and with nothing but margins around it they are one element, which gives these tags
pub record IsWhole (octets : List ℕ) (tags : List Tag) : Type 0 where
  pub root : List ℕ
  pub after : List ℕ
  pub utf8 : IsUtf8 octets
  pub before : IsMargin (after_order_mark octets) root
  pub element : IsElement (length octets) most_open root after tags
  pub behind : IsMargin after []
