use Rattle.std.proofs.Common.{◌<◌, ◌^◌, length, subst, sym, arith}
use Rattle.std.specs.Prelude.{List}
use Rattle.std.proofs.lemmas.List.{length-map}
use Rattle.std.proofs.lemmas.Result.{IfOk-weaker}
use Rattle.xdp_object.specs.xdp_maps.declared.decl.MapDecl.{MapDecl}
use Rattle.net_core.specs.declared.design.Design.{Design}
use Rattle.net_core.specs.View.{netlist_of}
use Rattle.hazard_core.specs.cell_core.View.{cell_of, program_of}
use Rattle.ehdl_build.specs.PipePrograms.Prepared.{ArePrepared}
use Rattle.ehdl_build.specs.Steps.{IsSoundPipeline, IsPipelineOf, counted_size}
use Rattle.ehdl_build.proofs.Prepared.{prepared}
use Rattle.ehdl_build.proofs.pipelined.pipeline_of.Goals as goal

pub planned-requires-clause-within : goal.planned-requires-clause-within
planned-requires-clause-within c = c.in_ok-cells.ensures.stages c.args.counted.now.stages c.requires.counted.stages

pub linked-requires : goal.linked-requires
linked-requires c =
    let cells = program_of c.in_ok-cells.cells in
    let few : length cells.cells < 2 ^ 32 = omega (arith, length-map c.in_ok-cells.cells.cells.items cell_of, c.len.ensures, c.if-len.false) in
    subst (ArePrepared cells c.in_ok-plan.plan) (sym c.decls.ensures.decls)
    (prepared c.programs_are_prepared.ensures c.args.program.now c.args.counted.now cells c.in_ok-plan.plan c.requires.program c.requires.counted c.in_ok-cells.ensures.law c.in_ok-cells.ensures.buildable c.in_ok-plan.ensures.is few)

pub returns-clause-pipeline : goal.returns-clause-pipeline
returns-clause-pipeline c =
    let cells = program_of c.in_ok-cells.cells in
    let plan = c.in_ok-plan.plan in
    let few : length cells.cells < 2 ^ 32 = omega (arith, length-map c.in_ok-cells.cells.cells.items cell_of, c.len.ensures, c.if-len.false) in
    IfOk-weaker c.linked.result (λ (d : Design). IsSoundPipeline cells plan c.decls.result.now (netlist_of d)) (λ (d : Design). IsPipelineOf c.args.program.now (counted_size c.args.counted.now) (netlist_of d))
    (λ d made. record {
      cells = cells;
      are_cells = record { graph = c.args.counted.now.graph; unfolded = c.requires.counted.unfolded; law = c.in_ok-cells.ensures.law; buildable = c.in_ok-cells.ensures.buildable };
      records = c.in_ok-cells.ensures.records c.args.counted.now.stages c.requires.counted.stages;
      plan = plan;
      planned = c.in_ok-plan.ensures;
      prepared = prepared c.programs_are_prepared.ensures c.args.program.now c.args.counted.now cells plan c.requires.program c.requires.counted c.in_ok-cells.ensures.law c.in_ok-cells.ensures.buildable c.in_ok-plan.ensures.is few;
      pipeline = subst (λ (ds : List MapDecl). IsSoundPipeline cells plan ds (netlist_of d)) c.decls.ensures.decls made;
    })
    c.linked.ensures.pipeline
