use Rattle.std.proofs.Common.{◌∙◌, ap, refl}
use Rattle.control_net.specs.Names.{wire_name}
use Rattle.control_net.specs.declared.names.Wire.TheVariants.{Advances}
use Rattle.overlay_net.specs.cell_nets.Wires.{wires_of}
use Rattle.block_core.specs.View.{block_of}
use Rattle.stage_net.specs.SiteTable.Staged.{AreStaged, AreLists}
use Rattle.pipe_parts.specs.PipeDraft.PipelinePlan.{program_in, plan_in}
use Rattle.place_parts.proofs.Making.{AreInputs, staged_over, nets_are, ready, held_ready, held_wide, pointed, held_pointed, of_row, is_made}
use Rattle.place_parts.proofs.stages.stage_over.Goals as goal

inputs : (c : goal.After-cells-1) → AreInputs c.args.pipeline_plan.now c.args.k c.args.before.now c.deref.result.now c.deref-3.result.now c.deref-4.result.now c.deref-5.result.now c.deref-6.result.now c.in_ok-table.table.items c.in_ok-pointers.pointers.items
inputs c = record {
  rows_are = c.deref.ensures.value ∙ c.requires.pipeline_plan.rows;
  made_are = c.deref-3.ensures.value ∙ c.in_ok-lists.ensures.made;
  held_are = c.deref-4.ensures.value ∙ c.in_ok-lists.ensures.held;
  those_are = c.deref-5.ensures.value ∙ c.in_ok-lists.ensures.made_pointers;
  held_those_are = c.deref-6.ensures.value ∙ c.in_ok-lists.ensures.held_pointers;
  table_is = c.in_ok-table.ensures.items ∙ c.deref-7.ensures.value;
  pointers_are = c.in_ok-pointers.ensures.items ∙ c.deref-8.ensures.value;
}

staged : (c : goal.After-cells-1) → AreStaged (program_in c.args.pipeline_plan.now) (plan_in c.args.pipeline_plan.now) c.args.pipeline_plan.now.needed.items c.args.pipeline_plan.now.parts.items c.args.pipeline_plan.now.points.items
staged c =
    let d = c.args.pipeline_plan.now in
    let is = c.requires.pipeline_plan in
    c.stages_are_placed.ensures.placed (program_in d) (plan_in d) d.needed.items d.parts.items d.points.items is.ready.formed is.ready.planned is.needed is.parts is.points

lists : (c : goal.After-cells-1) → AreLists (program_in c.args.pipeline_plan.now) (plan_in c.args.pipeline_plan.now) c.args.pipeline_plan.now.needed.items c.args.pipeline_plan.now.parts.items c.args.pipeline_plan.now.points.items
lists c =
    let d = c.args.pipeline_plan.now in
    c.stages_are_placed.ensures.lists (program_in d) (plan_in d) d.needed.items d.parts.items d.points.items

pub stage-requires-clause-staged : goal.stage-requires-clause-staged
stage-requires-clause-staged c = staged_over c.args.pipeline_plan.now c.requires.pipeline_plan c.args.maps.now c.deref.result.now c.requires.maps (inputs c).rows_are

pub stage-requires-clause-nets : goal.stage-requires-clause-nets
stage-requires-clause-nets c =
    nets_are c.args.pipeline_plan.now c.requires.pipeline_plan c.args.k c.args.before.now c.requires.before _ c.args.maps.now c.args.words.now refl c.deref-2.ensures.value refl refl c.requires.maps c.requires.word_count c.requires.words

pub stage-requires-clause-ready : goal.stage-requires-clause-ready
stage-requires-clause-ready c = ready c.args.pipeline_plan.now c.requires.pipeline_plan c.args.k c.args.before.now c.requires.before _ _ _ _ _ _ _ (inputs c) (staged c) (lists c)

pub stage-requires-clause-held : goal.stage-requires-clause-held
stage-requires-clause-held c = held_ready c.args.pipeline_plan.now c.requires.pipeline_plan c.args.k c.args.before.now c.requires.before _ _ _ _ _ _ _ (inputs c) (staged c) (lists c)

pub stage-requires-clause-some : goal.stage-requires-clause-some
stage-requires-clause-some c = held_wide c.args.pipeline_plan.now c.requires.pipeline_plan c.args.k c.args.before.now c.requires.before _ _ _ _ _ _ _ (inputs c) (staged c) (lists c)

pub stage-requires-clause-pointed : goal.stage-requires-clause-pointed
stage-requires-clause-pointed c = pointed c.args.pipeline_plan.now c.requires.pipeline_plan c.args.k c.args.before.now c.requires.before _ _ _ _ _ _ _ (inputs c) (staged c) (lists c)

pub stage-requires-clause-held_pointers : goal.stage-requires-clause-held_pointers
stage-requires-clause-held_pointers c = held_pointed c.args.pipeline_plan.now c.requires.pipeline_plan c.args.k c.args.before.now c.requires.before _ _ _ _ _ _ _ (inputs c) (staged c) (lists c)

pub stage-requires-clause-of_row : goal.stage-requires-clause-of_row
stage-requires-clause-of_row c = of_row c.args.pipeline_plan.now c.requires.pipeline_plan c.args.k c.args.before.now c.requires.before _ _ _ _ _ _ _ (inputs c) (staged c) (lists c)

pub returns : goal.returns
returns c =
    let d = c.args.pipeline_plan.now in
    let advances = c.wire_name-advance.ensures ∙ ap (λ x. wire_name x Advances) c.control.ensures in
    is_made d c.requires.pipeline_plan c.args.k c.args.before.now c.requires.before _ _ _ _ _ _ _
    (record {
      rows_are = c.deref.ensures.value ∙ c.requires.pipeline_plan.rows;
      made_are = c.deref-3.ensures.value ∙ c.in_ok-lists.ensures.made;
      held_are = c.deref-4.ensures.value ∙ c.in_ok-lists.ensures.held;
      those_are = c.deref-5.ensures.value ∙ c.in_ok-lists.ensures.made_pointers;
      held_those_are = c.deref-6.ensures.value ∙ c.in_ok-lists.ensures.held_pointers;
      table_is = c.in_ok-table.ensures.items ∙ c.deref-7.ensures.value;
      pointers_are = c.in_ok-pointers.ensures.items ∙ c.deref-8.ensures.value;
    })
    c.place-part.result c.wire_name-advance.result (record { sites = c.deref-2.result; maps = c.args.maps; words = c.args.words; bits = d.bits }) (wires_of c.args.wires.items) (block_of c.in_ok-block.block) c.place-part.ensures advances refl c.deref-2.ensures.value
    c.in_ok-block.ensures.block c.in_ok-block.ensures.begun c.in_ok-block.ensures.apart
