use Rattle.std.proofs.Common.{length, map as map_list}
use Rattle.operator_cells.specs.Making.{seen, Grows}
use Rattle.predicate_core.specs.Gathering.{GathersTo}
use Rattle.predicate_core.specs.Progress.{AreWaiting}
use Rattle.predicate_core.proofs.making.gather.Given as goal

abbrev pub invariant-loop-map : goal.invariant-loop-map
invariant-loop-map l = record {
  grows : Grows (seen l.fn.cells.items) (seen l.cells.items);
  waiting : AreWaiting l.map (length (seen l.cells.items)) l.all.items;
  rows : GathersTo (seen l.fn.cells.items) (seen l.cells.items) l.ways (map_list (λ x. x.items) l.pending) l.numbers l.map l.all.items;
}
