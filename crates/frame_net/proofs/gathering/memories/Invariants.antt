use Rattle.std.proofs.Common.{◌≡◌, ◌++◌, map, drop}
use Rattle.frame_net.specs.Gather.{memory_widths, further_widths}
use Rattle.frame_net.specs.Stores.{widths_memory}
use Rattle.frame_net.proofs.gathering.memories.Given as goal

abbrev pub invariant-loop-what : goal.invariant-loop-what
invariant-loop-what l = l.all.items ++ map widths_memory (map (further_widths l.bits) (drop l.what-index l.further)) ≡ map widths_memory (memory_widths l.bits l.further)
