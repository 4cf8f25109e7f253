use Rattle.std.proofs.Common.{◌≡◌, ◌++◌, map, drop}
use Rattle.block_core.specs.Link.{declare_memory}
use Rattle.block_core.proofs.sections.add_memories.Given as goal

abbrev pub invariant-loop-memory : goal.invariant-loop-memory
invariant-loop-memory l = l.all.items ++ map declare_memory (drop l.memory-index l.memories) ≡ l.initial.all.items ++ map declare_memory l.memories
