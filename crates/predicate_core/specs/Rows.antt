-- The rows of a program's cells against the stages of its graph.
use Rattle.std.specs.Prelude.{ℕ, ◌≤◌}
use Rattle.xdp_machine.specs.Program.{XdpProgram}
use Rattle.unfold_core.specs.declared.unfolding.Unfolded.{Unfolded}
use Rattle.operator_cells.specs.row_rules.declared.node_rows.stages.Stages.{Stages}
use Rattle.operator_cells.specs.row_rules.NodeRows.Rows.{HasStages}
use Rattle.cell_core.specs.Sites.{ProgramView}
use Rattle.cell_core.specs.Rows.{AreRows, last_row, record_count}

-- No node makes a cell in a later row than the last stage of the program's graph.
abbrev pub FitStages : XdpProgram → Unfolded → ProgramView → Type 0
FitStages p u cells = (s : Stages) → HasStages p u.nodes.items u.edges.items s → (row : ℕ → ℕ) → AreRows cells.cells row → last_row row cells.nodes ≤ s.rows

-- No more of its sites may write than nodes of the graph may.
abbrev pub FitRecords : XdpProgram → Unfolded → ProgramView → Type 0
FitRecords p u cells = (s : Stages) → HasStages p u.nodes.items u.edges.items s → record_count cells.sites ≤ s.records
