-- Plumbing: what a reader has still to give.
use Rattle.std.specs.Prelude.{◌≡◌, ℕ, [], ◌∷◌, Option, Some, None, Result, Ok, Err}
use Rattle.tag_text.specs.Document.{Left, left_of}
use Rattle.tag_text.specs.Scan.{state_of, end_of}
use Rattle.tag_text.specs.Giving.{after_tags, only}
use Rattle.tag_text.specs.declared.reader.TagReader.TheInside.{Inside}
use Rattle.tag_text.specs.declared.tag.Tag.{Tag}
use Rattle.tag_text.specs.declared.tag.Tag.TheVariants as tag
use Rattle.tag_text.specs.declared.tag.TagFault.{TagFault}
use Rattle.tag_text.specs.declared.tag.TagFault.TheVariants as fault

-- the fault of a document that is no UTF-8, and what is left of any other
abbrev pub left_if_well_formed : Option ℕ → Left → Left
left_if_well_formed None left = left
left_if_well_formed (Some place) left = only (Some (fault.Utf8 place))

abbrev pub left_by : Inside → Left
left_by r = left_if_well_formed r.ill_formed (after_tags (end_of r.ended) (left_of (state_of r.scan)))
