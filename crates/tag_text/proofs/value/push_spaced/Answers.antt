use Rattle.std.proofs.Common.{rules}
use Rattle.tag_text.proofs.ValueLemmas.{last_plain, one_more}
use Rattle.tag_text.proofs.value.push_spaced.Goals as goal

pub returns-in_default : goal.returns-in_default
returns-in_default c = record {
  ok = last_plain _ _ _ c.breaks.rest.now _ _ c.in_ok-push_str.ensures.bytes c.cut_at_break.ensures.plain
      (c.cut_at_break.ensures.end c.in_default.ensures.none) c.breaks.invariant.whole;
}

pub breaks-preserved : goal.breaks-preserved
breaks-preserved c = record {
  whole =
      one_more _ _ _ _ c.breaks.rest.now c.cut_at_break.result.1.now c.in-Some.after.now _
      c.in_ok-push_str.ensures.bytes c.in_ok-push_str-2.ensures.bytes
      c.cut_at_break.ensures.plain c.in-Some.ensures.after c.breaks.invariant.whole;
  utf8 = search rules;
}
