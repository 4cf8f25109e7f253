use Rattle.std.proofs.Common.{◌≡◌, All, sym, subst}
use Rattle.overlay_net.specs.cell_nets.Operands.{IsOperand}
use Rattle.row_net.specs.Table.{IsIn}
use Rattle.row_net.specs.PlaceNet.Exit.{output_operands}
use Rattle.pipe_parts.specs.PipeDraft.PipelinePlan.{program_in, plan_in}
use Rattle.pipe_design.specs.Answer.{AreOutputs}
use Rattle.pipe_design.proofs.Reached.{in_window, verdict_in, target_in, bytes_in, all_operands, last_table}
use Rattle.pipe_design.proofs.answer.answer.Goals as goal

pub outputs-requires-clause-verdict : goal.outputs-requires-clause-verdict
outputs-requires-clause-verdict c =
    let d = c.args.pipeline_plan.now in
    let places = c.args.places.now in
    let x = c.index-places-rows.result in
    let staged = c.stages_are_placed.ensures.placed (program_in d) (plan_in d) d.needed.items d.parts.items d.points.items c.requires.pipeline_plan.ready.formed c.requires.pipeline_plan.ready.planned c.requires.pipeline_plan.needed c.requires.pipeline_plan.parts c.requires.pipeline_plan.points in
    subst (λ t. IsIn t (program_in d).verdict) (last_table d places c.requires.places _ x x _ c.rows.ensures c.index-places-rows.is c.deref.ensures.value) (verdict_in d c.requires.pipeline_plan places c.requires.places staged x)

pub outputs-requires-clause-target : goal.outputs-requires-clause-target
outputs-requires-clause-target c =
    let d = c.args.pipeline_plan.now in
    let places = c.args.places.now in
    let x = c.index-places-rows.result in
    let staged = c.stages_are_placed.ensures.placed (program_in d) (plan_in d) d.needed.items d.parts.items d.points.items c.requires.pipeline_plan.ready.formed c.requires.pipeline_plan.ready.planned c.requires.pipeline_plan.needed c.requires.pipeline_plan.parts c.requires.pipeline_plan.points in
    subst (λ t. IsIn t (program_in d).target) (last_table d places c.requires.places _ x x _ c.rows.ensures c.index-places-rows.is c.deref.ensures.value) (target_in d c.requires.pipeline_plan places c.requires.places staged x)

pub outputs-requires-clause-changed : goal.outputs-requires-clause-changed
outputs-requires-clause-changed c = in_window c.args.pipeline_plan.now c.requires.pipeline_plan

pub outputs-requires-clause-there : goal.outputs-requires-clause-there
outputs-requires-clause-there c =
    let d = c.args.pipeline_plan.now in
    let places = c.args.places.now in
    let x = c.index-places-rows.result in
    let staged = c.stages_are_placed.ensures.placed (program_in d) (plan_in d) d.needed.items d.parts.items d.points.items c.requires.pipeline_plan.ready.formed c.requires.pipeline_plan.ready.planned c.requires.pipeline_plan.needed c.requires.pipeline_plan.parts c.requires.pipeline_plan.points in
    subst (λ t. All (λ y. IsIn t y.cell) (program_in d).frame) (last_table d places c.requires.places _ x x _ c.rows.ensures c.index-places-rows.is c.deref.ensures.value) (bytes_in d c.requires.pipeline_plan places c.requires.places staged x)

pub returns-clause-stands : goal.returns-clause-stands
returns-clause-stands c = λ b.
    let d = c.args.pipeline_plan.now in
    let x = c.index-places-rows.result in
    subst (λ t. AreOutputs (program_in d) t c.in_ok-outputs.outputs) (sym (last_table d c.args.places.now c.requires.places _ x b _ c.rows.ensures c.index-places-rows.is c.deref.ensures.value)) c.in_ok-outputs.ensures

pub returns-clause-operands : goal.returns-clause-operands
returns-clause-operands c =
    let d = c.args.pipeline_plan.now in
    let places = c.args.places.now in
    let x = c.index-places-rows.result in
    let staged = c.stages_are_placed.ensures.placed (program_in d) (plan_in d) d.needed.items d.parts.items d.points.items c.requires.pipeline_plan.ready.formed c.requires.pipeline_plan.ready.planned c.requires.pipeline_plan.needed c.requires.pipeline_plan.parts c.requires.pipeline_plan.points in
    all_operands d c.requires.pipeline_plan places c.requires.places staged x c.in_ok-outputs.outputs
    (subst (λ t. AreOutputs (program_in d) t c.in_ok-outputs.outputs) (sym (last_table d places c.requires.places _ x x _ c.rows.ensures c.index-places-rows.is c.deref.ensures.value)) c.in_ok-outputs.ensures)
