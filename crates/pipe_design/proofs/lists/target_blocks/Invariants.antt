use Rattle.std.proofs.Common.{◌≡◌, ◌++◌, length, map as map_list}
use Rattle.std.specs.Vec.Iter.{into_iter_items, into_iter_len}
use Rattle.block_core.specs.View.{block_of}
use Rattle.pipe_design.proofs.lists.target_blocks.Given as goal

abbrev pub invariant-loop-part : goal.invariant-loop-part
invariant-loop-part l = record {
  left : l.yielded ++ into_iter_items l.part-iterator ≡ l.fn.parts.items;
  count : into_iter_len l.part-iterator ≡ length (into_iter_items l.part-iterator);
  made : map_list block_of l.blocks.items ≡ map_list (λ x. block_of x.block) l.yielded;
}
