-- The pointers that a place makes are those of a packet.
use Rattle.std.specs.Prelude.{◌≡◌, ℕ, false}
use Rattle.overlay_net.specs.cell_core.declared.operator.Operator.{Operator}
use Rattle.overlay_net.specs.cell_core.Cells.{CellView}
use Rattle.overlay_net.specs.cell_core.Sites.{ProgramView}
use Rattle.cell_nets.specs.Computing.{is_outside}
use Rattle.overlay_net.specs.hazard_core.Tables.{TableState}
use Rattle.overlay_net.specs.hazard_core.StageValues.{StageValues, stage_value, pointer_in}
use Rattle.overlay_net.specs.hazard_core.Rows.{cell_pointer}
use Rattle.row_net.specs.SitePlace.Pointing.{made_pointer}

-- of cells that are computed, from what a packet holds
abbrev pub PointersAreHeld : Type 0
PointersAreHeld = (p : ProgramView) (row : ℕ → ℕ) (r : ℕ) (t : TableState) (h : StageValues) (c : CellView) (op : Operator) → is_outside op ≡ false → cell_pointer p row r t h c op ≡ made_pointer (stage_value h) (pointer_in h) c.ins op
