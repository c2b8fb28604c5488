use Rattle.std.proofs.Common.{rules, sym}
use Rattle.tag_text.proofs.PieceLemmas.{attribute_less, more_attributes, all_attributes}
use Rattle.tag_text.proofs.piece.attributes_at.Goals as goal

pub attributes-smaller : goal.attributes-smaller
attributes-smaller c =
    attribute_less c.attributes.rest.now ((c.in-Ok-Some.name, c.in-Ok-Some.value), c.in-Ok-Some.after.now)
    (sym (rw c.in-Ok-Some.field-0-is at c.in-Ok-Some.ensures.attribute))

pub attributes-preserved : goal.attributes-preserved
attributes-preserved c = record {
  whole =
      more_attributes _ _ c.attributes.rest.now c.in-Ok-Some.after.now c.in-Ok-Some.name c.in-Ok-Some.value _
      (rw c.in-Ok-Some.field-0-is at c.in-Ok-Some.ensures.attribute) c.in_ok-push-in-Ok-Some.ensures.ok
      c.attributes.invariant.whole;
  utf8 = search rules;
}

pub returns-in-Ok-None : goal.returns-in-Ok-None
returns-in-Ok-None c = record {
  attributes = all_attributes _ c.attributes.rest.now _ (rw c.in-Ok-None.field-0-is at c.in-Ok-None.ensures.attribute)
      c.attributes.invariant.whole;
}
