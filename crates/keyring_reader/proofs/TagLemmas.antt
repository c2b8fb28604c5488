-- What a reader gives in turn is the document.
use Rattle.std.proofs.Common.{◌≡◌, ℕ, List, Option, Some, Ok, Err, ap, ◌∙◌, append-nil}
use Rattle.std.specs.Option.{option_map}
use Rattle.tag_text.specs.declared.tag.Tag.{Tag}
use Rattle.tag_text.specs.declared.tag.Tag.TheVariants as given
use Rattle.tag_text.specs.declared.tag.TagFault.{TagFault}
use Rattle.tag_text.specs.declared.tag.TagFault.TheVariants as tag
use Rattle.tag_text.specs.Document.{Left, outcome_of, events_of}
use Rattle.tag_text.specs.Giving.{Gives, after_tags, only}
use Rattle.keyring_reader.specs.declared.fault.KeyringFault.TheVariants as fault
use Rattle.keyring_reader.specs.Chain.{unless}
use Rattle.keyring_reader.specs.Keyring.{tag_fault, tags_of, IsFault}

-- the fault that ends the document
ended : (octets : List ℕ) (tags : List Tag) (left : Left) (why : TagFault) → outcome_of octets ≡ after_tags tags left
    → left ≡ only (Some why)
    → tags_of octets ≡ Err (fault.Tag why)
unfolding tags_of
ended octets tags left why so_far is =
    ap (λ (found : Option TagFault). unless (option_map fault.Tag found) (Ok (events_of octets)))
    (ap (λ (whole : Left). whole.fault) so_far ∙ ap (λ (rest : Left). rest.fault) is)

pub refused : (octets : List ℕ) (tags : List Tag) (left new : Left) (why : TagFault)
    → outcome_of octets ≡ after_tags tags left → Gives left new (Err why)
    → IsFault (tag_fault why) (tags_of octets)
refused octets tags left new tag.NoMemory so_far gives = tt
refused octets tags left new (tag.Bad place) so_far gives = ended octets tags left (tag.Bad place) so_far gives.0
refused octets tags left new (tag.Utf8 place) so_far gives = ended octets tags left (tag.Utf8 place) so_far gives.0
refused octets tags left new (tag.Deep place) so_far gives = ended octets tags left (tag.Deep place) so_far gives.0

pub finished : (octets : List ℕ) (tags : List Tag) (left new : Left) → outcome_of octets ≡ after_tags tags left
    → Gives left new (Ok given.Finish)
    → tags_of octets ≡ Ok tags
unfolding tags_of
finished octets tags left new so_far gives =
    ap (λ (whole : Left). unless (option_map fault.Tag whole.fault) (Ok whole.tags))
    (so_far ∙ ap (after_tags tags) gives.0)
    ∙ ap (λ (all : List Tag). Ok all) (append-nil tags)
