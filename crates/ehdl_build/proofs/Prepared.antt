-- The cells of a counted program are prepared for a pipeline.
use Rattle.std.specs.Prelude.{◌≡◌, ◌<◌, ◌≤◌, ◌^◌, length, All}
use Rattle.std.proofs.Common.{arith}
use Rattle.std.proofs.lemmas.List.{length-map}
use Rattle.std.proofs.lemmas.List.Elements.{All-weaker}
use Rattle.xdp_object.specs.xdp_maps.Contents.{IsWithinLimits}
use Rattle.xdp_object.specs.xdp_machine.Program.{XdpProgram, IsProgram, IsDeclaration}
use Rattle.predicate_core.specs.ProgramGraph.Graphs.{node_view, graph_of}
use Rattle.hazard_core.specs.cell_core.Sites.{ProgramView}
use Rattle.operator_cells.specs.HeldCells.Law.{IsLaw}
use Rattle.predicate_core.specs.Buildable.{IsBuildable}
use Rattle.row_plan.specs.Plan.{Plan, IsPlan}
use Rattle.ehdl_build.specs.PipePrograms.Prepared.{ArePrepared, ProgramsArePrepared}
use Rattle.ehdl_build.specs.declared.counted.Counted.{Counted}
use Rattle.ehdl_build.specs.Steps.{IsCounted}

pub prepared : ProgramsArePrepared → (p : XdpProgram) (c : Counted) (cells : ProgramView) (plan : Plan) → IsProgram p → IsCounted p c → IsLaw (graph_of p c.graph) cells → IsBuildable cells → IsPlan cells plan → length cells.cells < 2 ^ 32
    → ArePrepared cells plan p.decls
prepared law p c cells plan program is keeps buildable planned few =
    law (graph_of p c.graph) cells plan keeps buildable planned few (omega (arith, length-map c.graph.nodes.items node_view, is.unfolded.graph.few)) program.maps
    (All-weaker IsDeclaration IsWithinLimits (λ d h. h.limits) p.decls program.decls)
