use Rattle.std.proofs.Common.{◌≡◌, ◌<◌, ℕ, length, map}
use Rattle.hazard_core.specs.cell_core.Cells.{cell_at}
use Rattle.hazard_core.specs.cell_core.View.{cell_of}
use Rattle.row_net.specs.Needed.{flag}
use Rattle.stage_net.specs.SiteTable.Pointing.{IsFlagged}
use Rattle.stage_net.proofs.site_table.pointing.pointing.Given as goal

abbrev pub invariant-loop-cell : goal.invariant-loop-cell
invariant-loop-cell l =
    record {
      count : length l.flags.items ≡ l.cell-index;
      each : (k : ℕ) → k < l.cell-index → IsFlagged l.flags.items (cell_at (map cell_of l.cells) k).op (cell_at (map cell_of l.cells) k).ins (flag l.flags.items k);
    }
