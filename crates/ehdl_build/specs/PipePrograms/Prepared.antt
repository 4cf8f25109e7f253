-- The programs that are prepared for a pipeline.
use Rattle.std.specs.Prelude.{◌^◌, ◌<◌, ◌≤◌, List, length, slice_index, All}
use Rattle.xdp_object.specs.xdp_maps.declared.decl.MapDecl.{MapDecl}
use Rattle.xdp_object.specs.xdp_maps.Contents.{IsWithinLimits}
use Rattle.unfold_core.specs.Graphs.{most_nodes}
use Rattle.hazard_core.specs.cell_core.Sites.{ProgramView}
use Rattle.operator_cells.specs.HeldCells.Paths.{GraphView}
use Rattle.operator_cells.specs.HeldCells.Law.{IsLaw}
use Rattle.predicate_core.specs.Buildable.{IsBuildable}
use Rattle.row_plan.specs.Plan.{Plan, IsPlan}
use Rattle.pipe_design.specs.stage_net.SiteTable.Constants.{AreEarly}
use Rattle.pipe_runs.specs.pipe_net.PipePlaces.Entries.{AccessesLead}
use Rattle.pipe_design.specs.pipe_parts.PipeDraft.Program.{IsForPipe, build_of}
use Rattle.pipe_design.specs.pipe_parts.PipeDraft.PipelinePlan.{most_sites}

-- What the pipeline of a program with its plan and its maps asks of it.
pub record ArePrepared (p : ProgramView) (plan : Plan) (decls : List MapDecl) : Type 0 where
  pub ready : IsForPipe p plan decls
  pub early : AreEarly p (slice_index plan.rows)
  pub few_sites : length p.sites ≤ most_sites
  pub leads : AccessesLead (build_of p plan)

-- So are all programs that keep the law of cells and can be built, whose graph has no more nodes than an unfolding, with their maps.
abbrev pub ProgramsArePrepared : Type 0
ProgramsArePrepared =
    (g : GraphView) (p : ProgramView) (plan : Plan) → IsLaw g p → IsBuildable p → IsPlan p plan → length p.cells < 2 ^ 32 → length g.nodes ≤ most_nodes → length g.decls ≤ 16 → All IsWithinLimits g.decls
    → ArePrepared p plan g.decls
