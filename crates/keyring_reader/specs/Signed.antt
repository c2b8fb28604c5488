-- What a keyring's signature is computed of. This is statement.
use Rattle.std.specs.Prelude.{ℕ, ◌%◌, ◌&&◌, ◌||◌, not, nat_lt, Bool, if◌then◌else◌, List, [], ◌∷◌, ◌++◌, length, codes, fold, flat_map, filter, Option, Some, None}
use Rattle.std.specs.Option.{option_or}
use Rattle.std.specs.List.{list_any}
use Rattle.std.specs.Ordering.{nat_cmp}
use Rattle.std.specs.Str.{bytes_eq}
use Rattle.std.specs.Cmp.Lexicographic.{slice_cmp}
use Rattle.std.specs.BTreeMap.{insert_entry}
use Rattle.tag_text.specs.declared.tag.Tag.{Tag}
use Rattle.tag_text.specs.declared.tag.Tag.TheVariants.{Start, End, Finish}
use Rattle.keyring_reader.specs.Keys.{base64_of, short_hash}

-- an attribute that is signed
abbrev pub is_signed : List ℕ × List ℕ → Bool
is_signed attribute = not (bytes_eq attribute.0 (codes "xmlns")) && not (bytes_eq attribute.0 (codes "Signature"))

-- with one more attribute in its place, where attributes stand in ascending order of the octets of their names
abbrev pub placed : List (List ℕ × List ℕ) → List ℕ × List ℕ → List (List ℕ × List ℕ)
placed ordered attribute = insert_entry (slice_cmp nat_cmp) ordered attribute.0 attribute.1

-- the attributes in that order
unfoldable pub by_name : List (List ℕ × List ℕ) → List (List ℕ × List ℕ)
by_name attributes = fold placed [] attributes

-- the length of a text, in one octet, and the text
abbrev pub sized : List ℕ → List ℕ
sized text = length text % 256 ∷ text

abbrev pub signed_attribute : List ℕ × List ℕ → List ℕ
signed_attribute attribute = sized attribute.0 ++ sized attribute.1

abbrev pub signed_tag : Tag → List ℕ
signed_tag (Start name attributes place) =
    1 ∷ sized name ++ flat_map signed_attribute (by_name (filter is_signed attributes))
signed_tag (End place) = 2 ∷ []
signed_tag Finish = []

-- the signed list: all tags in turn, and the base64 of the password's key
abbrev pub signed_list : List Tag → List ℕ → List ℕ
signed_list tags key = flat_map signed_tag tags ++ sized (base64_of key)

abbrev pub signature_of : List Tag → List ℕ → List ℕ
signature_of tags key = short_hash (signed_list tags key)

-- ---- texts whose length no octet tells

abbrev pub is_long : List ℕ → Bool
is_long text = nat_lt 255 (length text)

abbrev pub is_long_attribute : List ℕ × List ℕ → Bool
is_long_attribute attribute = is_long attribute.0 || is_long attribute.1

-- the name, or a name or a value of a signed attribute, is long
abbrev pub is_long_start : List ℕ → List (List ℕ × List ℕ) → Bool
is_long_start name attributes = is_long name || list_any is_long_attribute (filter is_signed attributes)

-- the place of the tag, if it has a long text
abbrev pub long_at : Tag → Option ℕ
long_at (Start name attributes place) = if is_long_start name attributes then Some place else None
long_at _ = None

-- the place of the first tag that has one
abbrev pub first_long : List Tag → Option ℕ
first_long [] = None
first_long (tag ∷ tags) = option_or (long_at tag) (first_long tags)
