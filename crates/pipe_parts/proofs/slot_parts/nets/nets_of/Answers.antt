use Rattle.std.proofs.Common.{refl}
use Rattle.pipe_parts.proofs.SlotParts.Standing.{form_fits_at, map_in}
use Rattle.pipe_parts.proofs.slot_parts.nets.nets_of.Goals as goal

pub used-requires-clause-form_fits : goal.used-requires-clause-form_fits
used-requires-clause-form_fits c = form_fits_at c.args.pipeline_plan.now c.requires.pipeline_plan c.args.m c.index-form.result.now c.requires.map c.index-form.ensures

pub returns : goal.returns
returns c =
    map_in c.args.pipeline_plan.now c.requires.pipeline_plan c.args.m c.index-form.result.now c.requires.map c.index-form.ensures c.args.part.now _ c.requires.part refl refl c.deref.ensures.value c.used.ensures.hash c.used.ensures.array
