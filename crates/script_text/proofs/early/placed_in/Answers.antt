use Rattle.std.proofs.Common.{refl, sym, ◌∙◌}
use Rattle.std.proofs.lemmas.Option.{slice_get_read}
use Rattle.knx_base.specs.declared.cause.Cause.TheVariants as cause
use Rattle.script_text.proofs.Places.{found_there, found_nowhere}
use Rattle.script_text.proofs.early.placed_in.Goals as goal

pub returns-in-Some-clause-place : goal.returns-in-Some-clause-place
returns-in-Some-clause-place c =
    slice_get_read c.args.nodes.now _ c.in-Some.place c.index-nodes-place.result refl c.in-Some.ensures.in_range
    c.index-nodes-place.is

pub returns-in-Some-clause-node : goal.returns-in-Some-clause-node
returns-in-Some-clause-node c =
    found_there cause.Name _ c.args.nodes.now c.in-Some.place c.index-nodes-place.result
    (sym c.place_of.ensures.place ∙ c.in-Some.is)
    (slice_get_read c.args.nodes.now _ c.in-Some.place c.index-nodes-place.result refl c.in-Some.ensures.in_range
    c.index-nodes-place.is)

pub returns-in-None-clause-none : goal.returns-in-None-clause-none
returns-in-None-clause-none c =
    found_nowhere cause.Name _ c.args.nodes.now (sym c.place_of.ensures.place ∙ c.in-None.is)
