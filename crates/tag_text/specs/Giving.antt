-- Statement: what a reader of tags gives, call by call, by the tags and the fault that are left.
use Rattle.std.specs.Prelude.{◌≡◌, [], ◌∷◌, ◌++◌, List, Option, Some, None, Result, Ok, Err}
use Rattle.tag_text.specs.Document.{Left}
use Rattle.tag_text.specs.declared.tag.Tag.{Tag}
use Rattle.tag_text.specs.declared.tag.Tag.TheVariants as tag
use Rattle.tag_text.specs.declared.tag.TagFault.{TagFault}
use Rattle.tag_text.specs.declared.tag.TagFault.TheVariants as fault

-- these tags, and then what is left later
abbrev pub after_tags : List Tag → Left → Left
after_tags tags later = record { tags = tags ++ later.tags; fault = later.fault }

-- nothing but this
abbrev pub only : Option TagFault → Left
only fault = record { tags = []; fault = fault }

-- what a call of `next` does to what is left: a tag is the first of the tags that are left; Finish comes where nothing
-- is left, and a fault where nothing but that fault is, and both leave it so; without memory it is as it was
abbrev pub Gives : Left → Left → Result Tag TagFault → Type 0
Gives old new (Ok (tag.Start name attributes place)) = old ≡ after_tags (tag.Start name attributes place ∷ []) new
Gives old new (Ok (tag.End place)) = old ≡ after_tags (tag.End place ∷ []) new
Gives old new (Ok tag.Finish) = (old ≡ only None) × (new ≡ old)
Gives old new (Err fault.NoMemory) = new ≡ old
Gives old new (Err (fault.Bad place)) = (old ≡ only (Some (fault.Bad place))) × (new ≡ old)
Gives old new (Err (fault.Utf8 place)) = (old ≡ only (Some (fault.Utf8 place))) × (new ≡ old)
Gives old new (Err (fault.Deep place)) = (old ≡ only (Some (fault.Deep place))) × (new ≡ old)
