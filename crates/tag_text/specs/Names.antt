-- Statement: the names of a tag's attributes.
use Rattle.std.specs.Prelude.{◌≡◌, ℕ, ◌<◌, List, length}
use Rattle.std.specs.List.{slice_index_or}
use Rattle.tag_text.specs.declared.tag.Tag.{Tag}
use Rattle.tag_text.specs.declared.tag.Tag.TheVariants.{Start, End, Finish}

-- of two places of the attributes the names differ
abbrev pub DifferInName : List (List ℕ × List ℕ) → Type 0
DifferInName attributes = (i j : ℕ) (attribute : List ℕ × List ℕ) → i < j → j < length attributes
    → (slice_index_or attributes i attribute).0 ≡ (slice_index_or attributes j attribute).0 → ⊥

-- a tag that names none of its attributes twice
abbrev pub NamesOnce : Tag → Type 0
NamesOnce (Start name attributes place) = DifferInName attributes
NamesOnce (End place) = Unit {0}
NamesOnce Finish = Unit {0}
