-- Statement: the pieces of a document: a tag, an instruction, a comment, a text, a run of blanks.
use Rattle.std.specs.Prelude.{ℕ, zero, suc, Bool, true, false, not, if◌then◌else◌, List, [], ◌∷◌, ◌++◌, length, codes, Option, Some, None}
use Rattle.std.specs.Option.{option_map, option_and_then, option_map_or}
use Rattle.tag_text.specs.Octets.{is_blank, is_octet, drop_while, after_blanks, after_mark, after_first_mark, name_at}
use Rattle.tag_text.specs.Attributes.{are_distinct}
use Rattle.tag_text.specs.Values.{value_at}

infixl 10 ◌>>=◌
abbrev pub ◌>>=◌ : {A B : Type 0} → Option A → (A → Option B) → Option B
o >>= f = option_and_then f o

-- the first of the two that there is
abbrev pub or_else : {A : Type 0} → Option A → Option A → Option A
or_else (Some x) other = Some x
or_else None other = other

-- what one piece says
pub data Piece : Type 0 where
  Start : (name : List ℕ) (attributes : List (List ℕ × List ℕ)) → Piece
  Empty : (name : List ℕ) (attributes : List (List ℕ × List ℕ)) → Piece
  End : (name : List ℕ) → Piece
  Skipped : Piece

abbrev pub begins_blank : List ℕ → Bool
begins_blank [] = false
begins_blank (octet ∷ text) = is_blank octet

-- an attribute: blanks, a name, `=` and a value; and what follows
unfoldable pub attribute_at : List ℕ → Option ((List ℕ × List ℕ) × List ℕ)
attribute_at text = if begins_blank text then (do
  name ← name_at (after_blanks text)
  rest ← after_mark (codes "=") (after_blanks name.1)
  value ← value_at (after_blanks rest)
  Some ((name.0, value.0), value.1)) else None

abbrev pub with_first : {A B : Type 0} → A → List A × B → List A × B
with_first x more = (x ∷ more.0, more.1)

-- these before what is found later
abbrev pub with_firsts : {A B : Type 0} → List A → List A × B → List A × B
with_firsts xs more = (xs ++ more.0, more.1)

-- the attributes at the front, as many as there are but no more than `most`, and what follows
abbrev pub attributes_within : ℕ → List ℕ → List (List ℕ × List ℕ) × List ℕ
attributes_within zero text = ([], text)
attributes_within (suc most) text =
    option_map_or (λ found. with_first found.0 (attributes_within most found.1)) (attribute_at text) ([], text)

-- the attributes at the front, and what follows
unfoldable pub attributes_at : List ℕ → List (List ℕ × List ℕ) × List ℕ
attributes_at text = attributes_within (length text) text

-- the end of a tag that may have attributes, and whether the element is empty; and what follows
unfoldable pub tag_end_at : List ℕ → Option (Bool × List ℕ)
tag_end_at text =
    or_else (option_map (λ after. (true, after)) (after_mark (codes "/>") (after_blanks text)))
    (option_map (λ after. (false, after)) (after_mark (codes ">") (after_blanks text)))

abbrev pub tag_of : Bool → List ℕ → List (List ℕ × List ℕ) → Piece
tag_of true name attributes = Empty name attributes
tag_of false name attributes = Start name attributes

-- the tag with this name and these attributes, where it ends here and no attribute is repeated; and what follows
abbrev pub tag_with : List ℕ → List (List ℕ × List ℕ) → List ℕ → Option (Piece × List ℕ)
tag_with name attributes rest = do
  end ← tag_end_at rest
  if are_distinct attributes then Some (tag_of end.0 name attributes, end.1) else None

-- a start tag or an empty-element tag, and what follows
unfoldable pub start_tag_at : List ℕ → Option (Piece × List ℕ)
start_tag_at text = do
  opened ← after_mark (codes "<") text
  name ← name_at opened
  tag_with name.0 (attributes_at name.1).0 (attributes_at name.1).1

-- an end tag, and what follows
unfoldable pub end_tag_at : List ℕ → Option (Piece × List ℕ)
end_tag_at text = do
  opened ← after_mark (codes "</") text
  name ← name_at opened
  after ← after_mark (codes ">") (after_blanks name.1)
  Some (End name.0, after)

abbrev pub skipped : Option (List ℕ) → Option (Piece × List ℕ)
skipped after = option_map (λ rest. (Skipped, rest)) after

-- what follows a processing instruction
unfoldable pub instruction_at : List ℕ → Option (List ℕ)
instruction_at text = after_mark (codes "<?") text >>= after_first_mark (codes "?>")

-- what follows a comment
unfoldable pub comment_at : List ℕ → Option (List ℕ)
comment_at text = after_mark (codes "<!--") text >>= after_first_mark (codes "-->")

-- the longest text without `<`
abbrev pub is_text_octet : ℕ → Bool
is_text_octet octet = not (is_octet 60 octet)

abbrev pub begins_text : List ℕ → Bool
begins_text [] = false
begins_text (octet ∷ text) = is_text_octet octet

-- what follows the text that may stand here: inside the root element any, outside it blanks
unfoldable pub text_at : Bool → List ℕ → Option (List ℕ)
text_at true text = if begins_text text then Some (drop_while is_text_octet text) else None
text_at false text = if begins_blank text then Some (after_blanks text) else None

-- the piece at the front, inside the root element or outside it, and what follows
unfoldable pub piece_at : Bool → List ℕ → Option (Piece × List ℕ)
piece_at inside text =
    or_else (skipped (instruction_at text))
    (or_else (skipped (comment_at text))
    (or_else (skipped (text_at inside text))
    (or_else (end_tag_at text)
    (start_tag_at text))))
