use Rattle.row_rules.specs.PlaceRows.Origins.{every_row}
use Rattle.row_rules.proofs.place_rows.origin.Origins.every_row.Goals as goal

pub returns : goal.returns
unfolding every_row
returns c = c.span_row.ensures
