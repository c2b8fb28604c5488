-- The elements of a document as a tree: each with those that it stands in. This is statement.
use Rattle.std.specs.Prelude.{ℕ, List, [], ◌∷◌, ◌++◌}
use Rattle.tag_text.specs.declared.tag.Tag.{Tag}
use Rattle.tag_text.specs.declared.tag.Tag.TheVariants.{Start, End}
use Rattle.keyring_reader.specs.Kinds.{Named, kind_at}
use Rattle.keyring_reader.specs.Elements.{Element}

mutual
  -- inside of these the tags are one element, and it and those inside of it are these elements
  pub data IsTree : List Named → List Tag → List Element → Type 0 where
    Tree : {outer : List Named} {tags : List Tag} {inner : List Element} (own : Named) (place end : ℕ)
        → AreTrees (own ∷ outer) tags inner
        → IsTree outer (Start own.name own.attributes place ∷ tags ++ End end ∷ [])
        (record { kind = kind_at (own ∷ outer); attributes = own.attributes; place = place } ∷ inner)

  -- elements in turn
  pub data AreTrees : List Named → List Tag → List Element → Type 0 where
    NoTrees : {outer : List Named} → AreTrees outer [] []
    MoreTrees : {outer : List Named} {tags later : List Tag} {these others : List Element} → IsTree outer tags these
        → AreTrees outer later others → AreTrees outer (tags ++ later) (these ++ others)
