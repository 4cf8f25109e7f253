use Rattle.std.proofs.Common.{◌≡◌, ◌++◌, map, drop}
use Rattle.block_core.specs.Blocks.{gather}
use Rattle.block_core.specs.Link.{declare_memory}
use Rattle.block_core.specs.View.{block_of}
use Rattle.block_core.proofs.sections.all_memories.Given as goal

abbrev pub invariant-loop-placed : goal.invariant-loop-placed
invariant-loop-placed g l =
    l.all.items ++ gather (λ m. map declare_memory (block_of m.block).memories) (drop l.placed-index l.parts) ≡ l.initial.all.items ++ gather (λ m. map declare_memory (block_of m.block).memories) l.parts
