use Rattle.std.proofs.Common.{◌≡◌, ◌++◌, ◌-◌, map, string_bytes}
use Rattle.block_core.specs.Link.{numbered}
use Rattle.block_core.proofs.whole.add_numbered.Given as goal

abbrev pub invariant-loop-k : goal.invariant-loop-k
invariant-loop-k l = map string_bytes l.names.items ++ numbered l.letter l.k (l.count - l.k) ≡ map string_bytes l.initial.names.items ++ numbered l.letter 0 l.count
