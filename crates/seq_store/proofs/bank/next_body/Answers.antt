use Rattle.std.proofs.Common.{◌≡◌, ◌+◌, ◌*◌, refl, ap, sym, ◌∙◌, arith}
use Rattle.knx_base.specs.Number.{octets_of}
use Rattle.seq_store.specs.Ring.{generation_at, generation_octets, replaced}
use Rattle.seq_store.proofs.Fills.{fill_start, fill_more, fill_end}
use Rattle.seq_store.proofs.bank.next_body.Goals as goal

pub loop-w-init : goal.loop-w-init
unfolding generation_octets octets_of
loop-w-init c =
    fill_start (generation_at c.args.octets.now (c.args.current + 1) + 1) c.args.values 8
    (replaced 1 c.args.values c.args.octets.now c.args.current c.args.value c.args.number) c.args.body.now
    c.copy_from_slice.new.self c.requires.zeros
    (c.copy_from_slice.ensures.after ∙ c.to_be_bytes.ensures
    ∙ ap (λ n. generation_octets (n + 1)) c.generation_at-generation.ensures) refl

pub loop-w-preserved : goal.loop-w-preserved
loop-w-preserved c =
    fill_more (generation_at c.args.octets.now (c.args.current + 1) + 1) c.args.values c.loop-w.w (8 + 6 * c.loop-w.w) _
    (replaced 1 c.args.values c.args.octets.now c.args.current c.args.value c.args.number) c.loop-w.body
    c.copy_from_slice-in-loop-w.new.self
    c.loop-w-test.true refl (omega arith)
    (c.copy_from_slice-in-loop-w.ensures.after ∙ c.to_bytes.ensures.octets ∙ ap octets_of c.replaced-each.ensures)
    c.loop-w.invariant

pub returns : goal.returns
returns c =
    fill_end (generation_at c.args.octets.now (c.args.current + 1) + 1) c.args.values c.loop-w.w _ c.loop-w.body
    (omega (arith, c.loop-w-test.false, c.loop-w.auto)) c.loop-w.invariant
