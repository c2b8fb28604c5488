-- What the elements of a keyring say, or the first refusal. This is statement.
use Rattle.std.specs.Prelude.{List, Result, Ok}
use Rattle.tag_text.specs.declared.tag.Tag.{Tag}
use Rattle.key_tables.specs.declared.types.Row.{Row}
use Rattle.keyring_reader.specs.declared.fault.KeyringFault.{KeyringFault}
use Rattle.keyring_reader.specs.declared.said.Listing.{Listing}
use Rattle.keyring_reader.specs.declared.keys.Wrapping.{Wrapping}
use Rattle.keyring_reader.specs.Chain.{unless}
use Rattle.keyring_reader.specs.Elements.{Element, elements_of, key_rows, listings_in}
use Rattle.keyring_reader.specs.Refusals.{first_refusal}

-- key rows, and listings, each in the order of the document
pub record Contents : Type 0 where
  pub rows : List Row
  pub listings : List Listing

abbrev pub contents_in : Wrapping → List Element → Contents
contents_in under elements = record { rows = key_rows under elements; listings = listings_in elements }

-- the contents of a document's elements, unless one of them is refused
unfoldable pub contents_of : Wrapping → List Tag → Result Contents KeyringFault
contents_of under tags = unless (first_refusal under (elements_of tags)) (Ok (contents_in under (elements_of tags)))
