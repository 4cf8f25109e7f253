use Rattle.std.specs.Prelude.{◌^◌}
use Rattle.std.proofs.Common.{◌<◌, length, sym, subst}
use Rattle.std.proofs.lemmas.Result.{IfOk-weaker}
use Rattle.pipe_design.specs.Order.{Lists, all_of, blocks_in}
use Rattle.pipe_design.specs.Parts.{AreOthers}
use Rattle.pipe_design.proofs.Whole.{AreLaws, few_blocks, all_parts}
use Rattle.pipe_design.proofs.parts.parts.Goals as goal

pub in_order-requires : goal.in_order-requires
in_order-requires c =
    let laws : AreLaws = record {
      slots = c.slots_are_shown.ensures;
      actions = c.parts_are_of_actions.ensures;
      maps = c.parts_are_of_maps.ensures;
      places = c.parts_are_of_places.ensures;
      marks = c.parts_are_of_marks.ensures;
      sites = c.pipeline_planned_are_laid.ensures.sites;
    } in
    subst (λ (xs : Lists). length (all_of xs) < 2 ^ 32) (sym c.in_ok-lists.ensures)
    (few_blocks laws c.args.pipeline_plan.now c.requires.pipeline_plan c.args.places.now c.requires.places c.args.words.now c.in_ok-slots.slots.items c.in_ok-slots.ensures c.in_ok-others.others c.in_ok-others.ensures)

pub returns : goal.returns
returns c =
    let laws : AreLaws = record {
      slots = c.slots_are_shown.ensures;
      actions = c.parts_are_of_actions.ensures;
      maps = c.parts_are_of_maps.ensures;
      places = c.parts_are_of_places.ensures;
      marks = c.parts_are_of_marks.ensures;
      sites = c.pipeline_planned_are_laid.ensures.sites;
    } in
    IfOk-weaker c.in_order.result _ _
    (λ ms makes. all_parts laws c.args.pipeline_plan.now c.requires.pipeline_plan c.args.places.now c.requires.places c.args.words.now c.in_ok-slots.slots.items c.in_ok-slots.ensures c.in_ok-others.others c.in_ok-others.ensures (blocks_in c.in_ok-lists.lists.items)
    c.in_ok-lists.ensures ms.items makes)
    c.in_order.ensures
