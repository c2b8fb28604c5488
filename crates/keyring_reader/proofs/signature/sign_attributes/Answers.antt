use Rattle.std.proofs.Common.{ℕ, List, [], ◌∷◌, ◌++◌, ◌∙◌, map, ap, sym, subst, append_assoc}
use Rattle.sha2.specs.Hashers.{Holds256}
use Rattle.keyring_reader.specs.Texts.{deref_texts}
use Rattle.keyring_reader.proofs.SignedLemmas.{more_signed}
use Rattle.keyring_reader.proofs.signature.sign_attributes.Goals as goal

pub attributes-preserved : goal.attributes-preserved
attributes-preserved c = λ m holds.
    let before = c.attributes.invariant m holds in
    let attribute : List ℕ × List ℕ = (c.in-Some.name.now.now, c.in-Some.value.now.now) in (
      before.0 ++ attribute ∷ [],
      append_assoc before.0 (attribute ∷ []) (map deref_texts c.next.new.self)
          ∙ ap (λ entries. before.0 ++ map deref_texts entries) (sym c.in-Some.ensures.steps) ∙ before.1,
      subst (λ (octets : List ℕ). Holds256 c.sign_attribute.new.hasher octets) (more_signed m before.0 attribute)
          (c.sign_attribute.ensures _ before.2),
    )
