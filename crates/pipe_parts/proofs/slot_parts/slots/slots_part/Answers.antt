use Rattle.std.proofs.Common.{sym, subst}
use Rattle.commit_net.specs.MapBlock.Forms.{FormFits}
use Rattle.pipe_parts.proofs.SlotParts.Showing.{hash_of, array_of, of_form}
use Rattle.pipe_parts.proofs.slot_parts.slots.slots_part.Goals as goal

pub hash_part-requires-clause-form_fits : goal.hash_part-requires-clause-form_fits
hash_part-requires-clause-form_fits c = subst FormFits (sym c.index-form.ensures) (c.requires.pipeline_plan.forms.form_fits c.args.m c.index-form.result.now c.requires.map)

pub returns-in_ok-part-in-Hash : goal.returns-in_ok-part-in-Hash
returns-in_ok-part-in-Hash c =
    let d = c.args.pipeline_plan.now in
    let f = c.index-form.result.now in
    let r = c.in_ok-part-in-Hash.part in
    of_form d c.args.m f r c.requires.map c.index-form.ensures (hash_of d.sizes c.args.m f r c.in-Hash.is c.in_ok-part-in-Hash.ensures.block c.in_ok-part-in-Hash.ensures.slots)

pub returns-in_ok-part-in-Array : goal.returns-in_ok-part-in-Array
returns-in_ok-part-in-Array c =
    let d = c.args.pipeline_plan.now in
    let f = c.index-form.result.now in
    let r = c.in_ok-part-in-Array.part in
    of_form d c.args.m f r c.requires.map c.index-form.ensures (array_of d.sizes c.args.m f r c.in-Array.is c.in_ok-part-in-Array.ensures.block c.in_ok-part-in-Array.ensures.slots)
