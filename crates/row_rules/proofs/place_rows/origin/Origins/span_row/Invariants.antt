use Rattle.std.proofs.Common.{◌≡◌, ◌-◌, max}
use Rattle.cell_core.specs.Rows.{greatest, numbers}
use Rattle.row_rules.specs.PlaceRows.Origins.{row_at, span_row}
use Rattle.row_rules.proofs.place_rows.origin.Origins.span_row.Given as goal

abbrev pub invariant-loop-place : goal.invariant-loop-place
invariant-loop-place l = max l.most (greatest (row_at l.self.places) (numbers l.place (l.fn.span.end - l.place))) ≡ span_row l.self.places l.fn.span
