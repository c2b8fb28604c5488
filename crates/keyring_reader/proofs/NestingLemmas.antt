-- The elements that tags begin are those of the tree.
use Rattle.std.proofs.Common.{◌≡◌, ℕ, List, [], ◌∷◌, ◌++◌, refl, sym, ap, subst, ◌∙◌, append-nil}
use Rattle.std.proofs.lemmas.List.{append_assoc}
use Rattle.tag_text.specs.Elements.{IsElement, Alone, Around, IsContent, Nothing, Skips, Has, IsWhole}
use Rattle.tag_text.specs.declared.tag.Tag.{Tag}
use Rattle.tag_text.specs.declared.tag.Tag.TheVariants.{End}
use Rattle.keyring_reader.specs.Kinds.{Named, kind_at}
use Rattle.keyring_reader.specs.Elements.{Element, elements_in, elements_of}
use Rattle.keyring_reader.specs.Nesting.{IsTree, Tree, AreTrees, NoTrees, MoreTrees}

mutual
  tree_in : {outer : List Named} {tags : List Tag} {these : List Element} (later : List Tag) → IsTree outer tags these
      → elements_in outer (tags ++ later) ≡ these ++ elements_in outer later
  tree_in later (Tree {outer} {tags} {inner} own place end trees) =
      let element : Element =
      record { kind = kind_at (own ∷ outer); attributes = own.attributes; place = place } in
      ap (λ (left : List Tag). element ∷ elements_in (own ∷ outer) left) (append_assoc tags (End end ∷ []) later)
      ∙ ap (λ (rest : List Element). element ∷ rest) (trees_in (End end ∷ later) trees)

  trees_in : {outer : List Named} {tags : List Tag} {these : List Element} (later : List Tag)
      → AreTrees outer tags these → elements_in outer (tags ++ later) ≡ these ++ elements_in outer later
  trees_in later NoTrees = refl
  trees_in later (MoreTrees {outer = outer} {tags = tags} {later = more} {these = these} {others = others} tree trees) =
      ap (elements_in outer) (append_assoc tags more later)
      ∙ tree_in (more ++ later) tree
      ∙ ap (λ (rest : List Element). these ++ rest) (trees_in later trees)
      ∙ sym (append_assoc these others (elements_in outer later))

abbrev HasTree : List Named → List Tag → Type 0
HasTree outer tags = (these : List Element) × IsTree outer tags these

abbrev HaveTrees : List Named → List Tag → Type 0
HaveTrees outer tags = (these : List Element) × AreTrees outer tags these

mutual
  of_element : {total levels : ℕ} {text rest : List ℕ} {tags : List Tag} (outer : List Named)
      → IsElement total levels text rest tags → HasTree outer tags
  of_element outer (Alone {name = name} {attributes = attributes} tag) =
      (_, Tree (record { name = name; attributes = attributes }) _ _ NoTrees)
  of_element outer (Around {name = name} {attributes = attributes} tag content end) =
      let own : Named = record { name = name; attributes = attributes } in
      let inner = of_content (own ∷ outer) content in
      (_, Tree own _ _ inner.1)

  of_content : {total levels : ℕ} {text rest : List ℕ} {tags : List Tag} (outer : List Named)
      → IsContent total levels text rest tags → HaveTrees outer tags
  of_content outer Nothing = ([], NoTrees)
  of_content outer (Skips piece content) = of_content outer content
  of_content outer (Has element content) =
      let first = of_element outer element in
      let others = of_content outer content in
      (first.0 ++ others.0, MoreTrees first.1 others.1)

pub nested : (octets : List ℕ) (tags : List Tag) → IsWhole octets tags → IsTree [] tags (elements_of tags)
nested octets tags is =
    let tree = of_element [] is.element in
    let same : elements_of tags ≡ tree.0 =
    ap (elements_in []) (sym (append-nil tags)) ∙ tree_in [] tree.1 ∙ append-nil tree.0 in
    subst (λ (these : List Element). IsTree [] tags these) (sym same) tree.1
