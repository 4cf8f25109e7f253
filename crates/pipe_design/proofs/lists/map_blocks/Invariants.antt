use Rattle.std.proofs.Common.{◌≡◌, ◌++◌, length, map as map_list}
use Rattle.std.specs.Vec.Iter.{into_iter_items, into_iter_len}
use Rattle.block_core.specs.View.{block_of}
use Rattle.pipe_design.specs.Order.{pairwise}
use Rattle.pipe_design.specs.Parts.{blocks_of_map}
use Rattle.pipe_design.proofs.lists.map_blocks.Given as goal

abbrev pub invariant-loop-part : goal.invariant-loop-part
invariant-loop-part l = record {
  count : into_iter_len l.part-iterator ≡ length (into_iter_items l.part-iterator);
  many : length l.rest.items ≡ length (into_iter_items l.part-iterator);
  made : map_list block_of l.blocks.items ++ pairwise blocks_of_map (into_iter_items l.part-iterator) l.rest.items ≡ pairwise blocks_of_map l.fn.parts.items l.fn.changes.items;
}
