use Rattle.std.proofs.Common.{◌≡◌, ◌<◌, List, length, take, map as map_list}
use Rattle.std.specs.Prelude.{All}
use Rattle.cell_core.specs.Cells.{CellView}
use Rattle.operator_cells.specs.Joining.{AreThere}
use Rattle.operator_cells.specs.declared.held_cells.way.Way.{Way}
use Rattle.predicate_core.specs.Gathering.{arms_of}
use Rattle.predicate_core.proofs.making.arms.Given as goal

abbrev pub invariant-loop-number : goal.invariant-loop-number
invariant-loop-number l = record {
  count : length l.arms.items ≡ l.number-index;
  there : (cells : List CellView) → All (λ e. e.bit < length cells) l.ways → All (λ row. All (λ c. c < length cells) row.items) l.pending → AreThere cells l.arms.items;
  brought : (d : Way) → l.arms.items ≡ arms_of l.ways (map_list (λ x. x.items) l.pending) (take l.number-index l.numbers) l.map d;
}
