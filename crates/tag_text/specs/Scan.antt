-- Plumbing: what a scan does, in the words of documents.
use Rattle.std.specs.Prelude.{◌≡◌, ℕ, ◌<◌, true, length, List, [], ◌∷◌, ◌++◌, Option, Some, None, Result, Ok, Err}
use Rattle.tag_text.specs.Document.{Left, State, Step, Goes, Stops, begins, place_of}
use Rattle.tag_text.specs.Giving.{after_tags, only}
use Rattle.tag_text.specs.declared.scan.Scan.{Scan}
use Rattle.tag_text.specs.declared.scan.Given.{Given}
use Rattle.tag_text.specs.declared.tag.Tag.{Tag}
use Rattle.tag_text.specs.declared.tag.Tag.TheVariants as tag
use Rattle.tag_text.specs.declared.tag.TagFault.{TagFault}
use Rattle.tag_text.specs.declared.tag.TagFault.TheVariants as fault

abbrev pub state_of : Scan → State
state_of s = record { total = s.total; opened = s.elements; begun = s.begun; rest = s.rest.now }

-- the end that comes right after a tag
abbrev pub end_of : Option ℕ → List Tag
end_of None = []
end_of (Some place) = tag.End place ∷ []

-- a step that gives this tag, and these right after it
abbrev pub GivesTag : Step → State → State → Tag → List Tag → Type 0
GivesTag step old new (tag.Start name attributes place) ends = step ≡ Goes (tag.Start name attributes place ∷ ends) new
GivesTag step old new (tag.End place) ends = step ≡ Goes (tag.End place ∷ ends) new
GivesTag step old new tag.Finish ends = (step ≡ Stops None) × (new ≡ old) × (ends ≡ [])

-- a step that answers so: it leads to the new state, or stops and stays; without memory it stays
abbrev pub Answers : Step → State → State → Result (Option Given) TagFault → Type 0
Answers step old new (Ok None) = step ≡ Goes [] new
Answers step old new (Ok (Some given)) = GivesTag step old new given.tag (end_of given.ended)
Answers step old new (Err fault.NoMemory) = new ≡ old
Answers step old new (Err (fault.Bad place)) = (step ≡ Stops (Some (fault.Bad place))) × (new ≡ old)
Answers step old new (Err (fault.Deep place)) = (step ≡ Stops (Some (fault.Deep place))) × (new ≡ old)
Answers step old new (Err (fault.Utf8 place)) = ⊥

-- an element is begun, or why not: what that says of every tag that would begin one here
abbrev pub BeginsElement : State → State → List ℕ → List (List ℕ × List ℕ) → Result Tag TagFault → Type 0
BeginsElement old new name attributes (Ok started) = (started ≡ tag.Start name attributes (place_of old))
    × (new ≡ record { total = old.total; opened = old.opened; begun = true; rest = old.rest })
    × ((tags : List Tag) (opened : List (List ℕ)) (after : List ℕ) → begins old tags opened after
    ≡ Goes tags (record { total = old.total; opened = opened; begun = true; rest = after }))
    × (length old.opened < 32)
BeginsElement old new name attributes (Err fault.NoMemory) = new ≡ old
BeginsElement old new name attributes (Err (fault.Bad place)) = (new ≡ old)
    × ((tags : List Tag) (opened : List (List ℕ)) (after : List ℕ)
    → begins old tags opened after ≡ Stops (Some (fault.Bad place)))
BeginsElement old new name attributes (Err (fault.Deep place)) = (new ≡ old)
    × ((tags : List Tag) (opened : List (List ℕ)) (after : List ℕ)
    → begins old tags opened after ≡ Stops (Some (fault.Deep place)))
BeginsElement old new name attributes (Err (fault.Utf8 place)) = ⊥

-- what was left is this tag and these right after it, and then what is left now
abbrev pub TakesTag : Left → Left → Tag → List Tag → Type 0
TakesTag old new (tag.Start name attributes place) ends = old ≡ after_tags (tag.Start name attributes place ∷ ends) new
TakesTag old new (tag.End place) ends = old ≡ after_tags (tag.End place ∷ ends) new
TakesTag old new tag.Finish ends = (old ≡ only None) × (new ≡ old) × (ends ≡ [])

-- what was left before is what is given and what is left after
abbrev pub GivesLeft : Left → Left → Result Given TagFault → Type 0
GivesLeft old new (Ok given) = TakesTag old new given.tag (end_of given.ended)
GivesLeft old new (Err fault.NoMemory) = new ≡ old
GivesLeft old new (Err (fault.Bad place)) = (old ≡ only (Some (fault.Bad place))) × (new ≡ old)
GivesLeft old new (Err (fault.Deep place)) = (old ≡ only (Some (fault.Deep place))) × (new ≡ old)
GivesLeft old new (Err (fault.Utf8 place)) = ⊥
