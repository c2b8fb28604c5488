use Rattle.std.proofs.Common.{◌∙◌, map, ap, sym, refl, arith}
use Rattle.keyring_reader.specs.Signed.{by_name}
use Rattle.keyring_reader.specs.Texts.{deref_texts}
use Rattle.keyring_reader.proofs.SignedLemmas.{shown, one_placed, none_placed}
use Rattle.keyring_reader.proofs.signature.by_name.Goals.{in-Some+then-is_signed+in_ok-insert, in-Some+else-is_signed, in_default}
use Rattle.keyring_reader.proofs.signature.by_name.Goals as goal

pub attributes-init : goal.attributes-init
unfolding by_name
attributes-init c = rw c.new-ordered.ensures.empty refl

pub attributes-preserved : goal.attributes-preserved
attributes-preserved c = elim c.match-pair.branch [
  | in-Some+then-is_signed+in_ok-insert w ↦
      one_placed c.args.attributes.now _ _ _ c.attributes.index (w.in-Some.name.now, w.in-Some.value.now)
      (sym w.in-Some.ensures.pair)
      (sym w.is_signed.ensures ∙ w.if-is_signed.true)
      (ap (λ ordered. map deref_texts ordered.entries) w.ordered-is
      ∙ ap (map deref_texts) w.in_ok-insert.ensures.entries
      ∙ shown c.attributes.ordered.entries w.in-Some.name w.in-Some.value)
      c.attributes.invariant
  | in-Some+else-is_signed w ↦
      none_placed c.args.attributes.now _ _ c.attributes.index (w.in-Some.name.now, w.in-Some.value.now)
      (sym w.in-Some.ensures.pair)
      (sym w.is_signed.ensures ∙ w.if-is_signed.false) (rw w.ordered-is c.attributes.invariant)
  | in_default w ↦ absurd (omega (
    arith,
    w.in_default.ensures.none,
    c.len-index-end.ensures.len,
    c.attributes-test.true,
  ))
]
