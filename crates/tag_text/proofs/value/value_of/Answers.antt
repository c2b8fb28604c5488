use Rattle.std.proofs.Common.{refl, rules}
use Rattle.tag_text.specs.Values.{value_of}
use Rattle.tag_text.proofs.value.value_of.Goals as goal

pub parts-init : goal.parts-init
unfolding value_of
parts-init c = record {
  whole = rw (c.cut_at_reference.ensures.parts, c.in_ok-push_spaced.ensures.ok, c.new-value.ensures.bytes) refl;
  utf8 = search rules;
}
