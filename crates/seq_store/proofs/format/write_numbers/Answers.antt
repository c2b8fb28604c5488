use Rattle.std.proofs.Common.{◌≡◌, ◌+◌, [], ◌∷◌, ◌∙◌, arith, below_more}
use Rattle.std.specs.Prelude.{slice_index}
use Rattle.std.proofs.lemmas.Grind.{get_or_default_zero}
use Rattle.seq_store.specs.Layout.{head_write}
use Rattle.seq_store.proofs.Pieces.{each_begins, each_more, each_stops}
use Rattle.seq_store.proofs.format.write_numbers.Goals as goal

pub returns-in-Err-clause-makes : goal.returns-in-Err-clause-makes
returns-in-Err-clause-makes g c =
    each_stops (head_write c.args.reserved ∷ []) 15 c.args.marks.now 0
    (each_begins (head_write c.args.reserved ∷ []) 15 c.args.marks.now c.in-Err.ensures.makes)

pub loop-mark-init : goal.loop-mark-init
loop-mark-init g c = record {
  place = omega arith;
  makes = each_begins (head_write c.args.reserved ∷ []) 15 c.args.marks.now c.in_default.ensures.makes;
  each = λ k h. absurd (omega (arith, h));
}

pub returns-in-Err-write_number-clause-makes : goal.returns-in-Err-write_number-clause-makes
returns-in-Err-write_number-clause-makes g c =
    each_stops (head_write c.args.reserved ∷ []) 15 c.args.marks.now (c.loop-mark.mark-index + 1)
    (each_more (head_write c.args.reserved ∷ []) 15 c.args.marks.now c.loop-mark.mark-index c.loop-mark.place
    c.mark-item.result c.loop-mark-test.true
    c.loop-mark.invariant.place
    (c.mark-item.is ∙ get_or_default_zero c.args.marks.now c.loop-mark.mark-index c.mark-item.result
    c.loop-mark-test.true)
    c.loop-mark.invariant.makes c.in-Err-write_number.ensures.makes)

pub loop-mark-preserved : goal.loop-mark-preserved
loop-mark-preserved g c =
    let item : c.mark-item.result ≡ slice_index c.args.marks.now c.loop-mark.mark-index =
    c.mark-item.is ∙ get_or_default_zero c.args.marks.now c.loop-mark.mark-index c.mark-item.result
    c.loop-mark-test.true in
    record {
      place = omega (arith, c.loop-mark.invariant.place);
      makes = each_more (head_write c.args.reserved ∷ []) 15 c.args.marks.now c.loop-mark.mark-index c.loop-mark.place
          c.mark-item.result c.loop-mark-test.true
          c.loop-mark.invariant.place item c.loop-mark.invariant.makes c.in_default-write_number.ensures.makes;
      each = below_more _ _ c.loop-mark.invariant.each (omega (arith, item, c.in_default-write_number.ensures.fits));
    }
