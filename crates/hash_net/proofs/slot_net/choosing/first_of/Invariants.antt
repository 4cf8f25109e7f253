use Rattle.std.proofs.Common.{length, map}
use Rattle.net_core.specs.View.{tree_of}
use Rattle.cell_nets.specs.Wires.{wires_of}
use Rattle.hash_net.proofs.SlotNet.ChainLemmas.{IsChain}
use Rattle.hash_net.proofs.slot_net.choosing.first_of.Given as goal

abbrev pub invariant-chain : goal.invariant-chain
invariant-chain g l = IsChain l.part (wires_of l.fn.wires.items) (wires_of l.wires.items) (map tree_of l.fn.tests.items) (map tree_of l.tests.items) l.bits l.numbering l.none l.rest

abbrev pub decreases-chain : goal.decreases-chain
decreases-chain g l = length l.tests.items
