use Rattle.std.proofs.Common.{◌≡◌, ◌-◌, ◌++◌, map}
use Rattle.frame_net.specs.Stores.{widths_memory}
use Rattle.array_net.specs.WordTrees.{memories_from, word_memories}
use Rattle.array_net.proofs.words.add_memories.Given as goal

abbrev pub invariant-loop-j : goal.invariant-loop-j
invariant-loop-j l = l.all.items ++ map widths_memory (memories_from l.bits l.bytes l.j (l.count - l.j)) ≡ l.initial.all.items ++ map widths_memory (word_memories l.bits l.bytes)
