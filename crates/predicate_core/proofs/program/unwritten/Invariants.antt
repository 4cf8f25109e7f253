use Rattle.std.proofs.Common.{length}
use Rattle.operator_cells.specs.Making.{seen, Grows}
use Rattle.predicate_core.specs.Buildable.{AddsNoRow}
use Rattle.predicate_core.specs.Progress.{AreWaiting}
use Rattle.predicate_core.proofs.program.unwritten.Given as goal

abbrev pub invariant-loop-map : goal.invariant-loop-map
invariant-loop-map l = record {
  grows : Grows (seen l.fn.cells.items) (seen l.cells.items);
  no_row : AddsNoRow (seen l.fn.cells.items) (seen l.cells.items);
  waiting : AreWaiting l._map (length (seen l.cells.items)) l.all.items;
}
