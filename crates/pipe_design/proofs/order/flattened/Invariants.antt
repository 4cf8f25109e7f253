use Rattle.std.proofs.Common.{◌≡◌, ◌++◌, length, map as map_list}
use Rattle.std.specs.Vec.Iter.{into_iter_items, into_iter_len}
use Rattle.block_core.specs.View.{block_of}
use Rattle.pipe_design.specs.Order.{blocks_in, all_of}
use Rattle.pipe_design.proofs.order.flattened.Given as goal

abbrev pub invariant-loop-list : goal.invariant-loop-list
invariant-loop-list l = record {
  left : l.yielded ++ into_iter_items l.list-iterator ≡ l.fn.lists.items;
  count : into_iter_len l.list-iterator ≡ length (into_iter_items l.list-iterator);
  made : map_list block_of l.all.items ≡ all_of (blocks_in l.yielded);
}
