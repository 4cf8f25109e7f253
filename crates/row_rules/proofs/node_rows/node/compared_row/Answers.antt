use Rattle.std.proofs.Common.{◌≤◌, arith}
use Rattle.row_rules.specs.declared.place_rows.span.Span.{Span}
use Rattle.row_rules.specs.PlaceRows.Origins.{span_row}
use Rattle.row_rules.proofs.PlaceRows.PlaceLaws.{span_low}
use Rattle.row_rules.proofs.node_rows.node.compared_row.Goals as goal
use Rattle.row_rules.proofs.node_rows.node.compared_row.Goals.{in-K, in-X}

pub returns-clause-low : goal.returns-clause-low
returns-clause-low c = omega (arith, c.max.ensures, c.span_row-a.ensures, low c.register.result, right)
  where
    low : (s : Span) → span_row c.args.origins.now.places s ≤ 256
    low s = span_low c.args.origins.now.places 256 s c.are_all.ensures c.requires

    right : c.match-src.b ≤ 256
    right = elim c.match-src.branch [ in-K w ↦ omega (arith, w.b-is) | in-X w ↦ omega (arith, w.b-is, w.span_row-b.ensures, low w.register-in-X.result) ]
