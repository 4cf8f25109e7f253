use Rattle.std.proofs.Common.{arith}
use Rattle.row_rules.proofs.PlaceRows.PlaceLaws.{spans_low}
use Rattle.row_rules.proofs.node_rows.node.result_row.Goals as goal

pub overflow_add-result : goal.overflow_add-result
overflow_add-result c = omega (arith, spans_low c.args.before.now.places 256 c.reads.result c.are_all.ensures c.requires.low, c.greatest-read.ensures)
