use Rattle.std.proofs.Common.{◌≡◌, length, take}
use Rattle.predicate_core.proofs.ProgramGraph.Adding.{AreEndsOf}
use Rattle.predicate_core.proofs.program_graph.edge_ends.ends.Given as goal

abbrev pub invariant-loop-edge : goal.invariant-loop-edge
invariant-loop-edge l = record { size : length l.ends.items ≡ length l.unfolded.nodes.items; are : AreEndsOf (take l.edge-index l.unfolded.edges.items) l.ends.items }
