use Rattle.std.proofs.Common.{◌≡◌, drop, max}
use Rattle.row_rules.specs.PlaceRows.Origins.{spans_row}
use Rattle.row_rules.proofs.node_rows.node.greatest.Given as goal

abbrev pub invariant-loop-span : goal.invariant-loop-span
invariant-loop-span l = max l.most (spans_row l.origins.places (drop l.span-index l.spans)) ≡ spans_row l.origins.places l.spans
