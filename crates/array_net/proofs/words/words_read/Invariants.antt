use Rattle.std.proofs.Common.{◌≡◌, ◌-◌}
use Rattle.net_core.specs.View.{tree_of}
use Rattle.array_net.specs.WordTrees.{words_read}
use Rattle.array_net.proofs.words.words_read.Given as goal

abbrev pub invariant-loop-k : goal.invariant-loop-k
invariant-loop-k g l = tree_of l.tree ≡ words_read l.part l.bits l.first l.bytes (l.count - l.k) l.k (tree_of l.fn.rest)
