-- The design of a program whose packets operate on maps.
use Rattle.std.specs.Prelude.{◌≡◌, List, IsTrue}
use Rattle.hazard_core.specs.xdp_maps.declared.decl.MapDecl.{MapDecl}
use Rattle.net_core.specs.Nets.{Netlist}
use Rattle.block_core.specs.Blocks.{Whole}
use Rattle.block_core.specs.Range.{design_in_range}
use Rattle.hazard_core.specs.cell_core.Sites.{ProgramView}
use Rattle.row_plan.specs.Plan.{Plan}
use Rattle.stage_net.specs.SiteTable.Pointing.{AreFlagged}
use Rattle.pipe_net.specs.declared.parts.Part.{Part}
use Rattle.pipe_net.specs.Layout.{Layout}
use Rattle.pipe_parts.specs.PipeDraft.Program.{build_of}
use Rattle.pipe_net.specs.PipeForms.Parts.{outputs_of, design, names_of}
use Rattle.pipe_net.specs.PipeClocks.Following.{IsPipeline}

-- a pipeline of the program, by this plan and with these maps
pub record IsPipelineFor (p : ProgramView) (plan : Plan) (decls : List MapDecl) (l : Layout) (d : Whole Part) : Type 0 where
  pub build : l.build ≡ build_of p plan
  pub decls_are : l.decls ≡ decls
  pub flagged : AreFlagged p.cells l.flags
  pub pipeline : IsPipeline l d

-- A design that is linked of the parts of a pipeline of the program.
pub record IsPipelineOf (p : ProgramView) (plan : Plan) (decls : List MapDecl) (n : Netlist) : Type 0 where
  pub layout : Layout
  pub whole : Whole Part
  pub made : IsPipelineFor p plan decls layout whole
  pub is : n ≡ design layout whole (names_of whole)

-- A pipeline of the program has nets, or reads or sets one, past the numbers of 32 bits.
pub record IsTooLarge (p : ProgramView) (plan : Plan) (decls : List MapDecl) : Type 0 where
  pub layout : Layout
  pub whole : Whole Part
  pub made : IsPipelineFor p plan decls layout whole
  pub past : ¬ IsTrue (design_in_range whole (outputs_of layout))
