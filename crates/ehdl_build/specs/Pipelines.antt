-- The cells of an accepted program.
use Rattle.std.specs.Prelude.{ℕ, ◌≤◌}
use Rattle.xdp_object.specs.xdp_machine.Program.{XdpProgram}
use Rattle.unfold_core.specs.declared.unfolding.Unfolded.{Unfolded}
use Rattle.unfold_core.specs.Unfolding.{IsUnfolded}
use Rattle.hazard_core.specs.cell_core.Sites.{ProgramView}
use Rattle.hazard_core.specs.cell_core.Rows.{AreRows, last_row}
use Rattle.operator_cells.specs.HeldCells.Law.{IsLaw}
use Rattle.predicate_core.specs.ProgramGraph.Graphs.{graph_of}
use Rattle.predicate_core.specs.Buildable.{IsBuildable}

-- cells that compute the runs of a program, and can be built
pub record AreCellsOf (p : XdpProgram) (cells : ProgramView) : Type 0 where
  pub graph : Unfolded
  pub unfolded : IsUnfolded p graph
  pub law : IsLaw (graph_of p graph) cells
  pub buildable : IsBuildable cells

-- no node makes a cell in a later row than this one
abbrev pub StandWithin : ℕ → ProgramView → Type 0
StandWithin stages cells = (row : ℕ → ℕ) → AreRows cells.cells row → last_row row cells.nodes ≤ stages
