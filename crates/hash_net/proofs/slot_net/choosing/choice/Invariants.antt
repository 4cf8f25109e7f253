use Rattle.std.proofs.Common.{length, map}
use Rattle.net_core.specs.View.{tree_of}
use Rattle.hash_net.proofs.SlotNet.ChainLemmas.{IsChoice}
use Rattle.hash_net.proofs.slot_net.choosing.choice.Given as goal

abbrev pub invariant-loop-test : goal.invariant-loop-test
invariant-loop-test g l = IsChoice (map tree_of l.fn.tests.items) (map tree_of l.tests.items) l.first l.bits l.numbering l.fn.rest (tree_of l.tree)

abbrev pub decreases-loop-test : goal.decreases-loop-test
decreases-loop-test g l = length l.tests.items
