-- What the steps of compiling give each other.
use Rattle.std.specs.Prelude.{◌≡◌, ◌≤◌, ℕ, IsTrue, List, length}
use Rattle.xdp_object.specs.xdp_maps.declared.decl.MapDecl.{MapDecl}
use Rattle.xdp_object.specs.xdp_machine.Program.{XdpProgram}
use Rattle.net_core.specs.Nets.{Netlist}
use Rattle.net_core.specs.ProductRules.Products.{no_product_chains}
use Rattle.xdp_state.specs.declared.refusal.BuildError.{BuildError}
use Rattle.xdp_state.specs.declared.refusal.BuildError.TheVariants as build
use Rattle.kind_core.specs.declared.kind.Offsets.TheVariants.{Fixed}
use Rattle.unfold_core.specs.Unfolding.{IsUnfolded}
use Rattle.row_rules.specs.NodeRows.Rows.{HasStages}
use Rattle.row_rules.specs.NodeRows.Acceptance.{IsFirstRefusal}
use Rattle.hazard_core.specs.cell_core.Sites.{ProgramView}
use Rattle.hazard_core.specs.cell_core.Rows.{record_count}
use Rattle.row_plan.specs.Plan.{Plan, IsPlan}
use Rattle.ehdl_build.specs.PipePrograms.Prepared.{ArePrepared}
use Rattle.pipe_design.specs.Pipeline.{IsPipelineOf as IsDesignOf}
use Rattle.ehdl_build.specs.declared.counted.Counted.{Counted}
use Rattle.ehdl_build.specs.Pipelines.{AreCellsOf}
use Rattle.ehdl_build.specs.Compiled.{PipelineSize}

-- the graph of a program, with offsets that are fixed, and what is counted on it
pub record IsCounted (p : XdpProgram) (c : Counted) : Type 0 where
  pub unfolded : IsUnfolded p c.graph
  pub fixed : c.graph.offsets ≡ Fixed
  pub stages : HasStages p c.graph.nodes.items c.graph.edges.items c.stages

-- why nothing is counted; of want of memory nothing is said
abbrev pub FailsCounting : XdpProgram → BuildError → Type 0
FailsCounting p (build.Refused r) = IsFirstRefusal Fixed p r
FailsCounting p build.NoMemory = Unit {0}

abbrev pub counted_size : Counted → PipelineSize
counted_size c = record { stages = c.stages.rows; records = c.stages.records; nodes = length c.graph.nodes.items }

-- the plan of cells, of so many stages at most
pub record IsPlanWithin (stages : ℕ) (cells : ProgramView) (plan : Plan) : Type 0 where
  pub is : IsPlan cells plan
  pub within : plan.last ≤ stages

-- a pipeline of planned cells with these maps, with products apart
pub record IsSoundPipeline (cells : ProgramView) (plan : Plan) (decls : List MapDecl) (n : Netlist) : Type 0 where
  pub is : IsDesignOf cells plan decls n
  pub apart : IsTrue (no_product_chains n)

-- a pipeline of a program's cells, of this size at most
pub record IsPipelineOf (p : XdpProgram) (z : PipelineSize) (n : Netlist) : Type 0 where
  pub cells : ProgramView
  pub are_cells : AreCellsOf p cells
  pub records : record_count cells.sites ≤ z.records
  pub plan : Plan
  pub planned : IsPlanWithin z.stages cells plan
  pub prepared : ArePrepared cells plan p.decls
  pub pipeline : IsSoundPipeline cells plan p.decls n
