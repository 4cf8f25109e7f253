use Rattle.hazard_core.proofs.HeldRows.Making.{row_is_made, row_keeps}
use Rattle.hazard_core.proofs.held_rows.laws.row_is_made.Goals as goal

pub returns : goal.returns
returns c = record { made = row_is_made c.reads_keep.ensures; keeps = row_keeps }
