use Rattle.std.proofs.Common.{◌≡◌, ◌++◌, length, map as map_list}
use Rattle.std.specs.Vec.Iter.{into_iter_items, into_iter_len}
use Rattle.block_core.specs.View.{block_of}
use Rattle.hazard_core.specs.cell_core.Rows.{numbers}
use Rattle.pipe_net.specs.Parts.{part}
use Rattle.pipe_design.proofs.order.numbered.Given as goal

abbrev pub invariant-loop-block : goal.invariant-loop-block
invariant-loop-block l = record {
  left : l.yielded ++ into_iter_items l.block-iterator ≡ l.fn.blocks.items;
  count : into_iter_len l.block-iterator ≡ length (into_iter_items l.block-iterator);
  long : length l.all.items ≡ length l.yielded;
  parts : map_list (λ m. m.part) l.all.items ≡ map_list part (numbers 0 (length l.yielded));
  are : map_list (λ m. block_of m.block) l.all.items ≡ map_list block_of l.yielded;
}
