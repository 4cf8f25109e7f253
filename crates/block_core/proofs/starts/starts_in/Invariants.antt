use Rattle.std.proofs.Common.{◌≡◌, ◌+◌, ◌++◌, true, map, drop}
use Rattle.block_core.specs.Blocks.{running}
use Rattle.block_core.specs.View.{block_of, count_in}
use Rattle.block_core.specs.Range.{in_range, placed_total}
use Rattle.block_core.proofs.starts.starts_in.Given as goal

abbrev pub invariant-loop-placed : goal.invariant-loop-placed
invariant-loop-placed g l = record {
  starts : l.starts.items ++ running l.at (map (λ m. count_in l.section (block_of m.block)) (drop l.placed-index l.parts))
      ≡ running 0 (map (λ m. count_in l.section (block_of m.block)) l.parts);
  total : l.at + placed_total l.section (drop l.placed-index l.parts) ≡ placed_total l.section l.parts;
  small : in_range l.at ≡ true;
}
