use Rattle.std.proofs.Common.{◌-◌}
use Rattle.net_core.specs.View.{tree_of}
use Rattle.cell_nets.proofs.JoinLemmas.{IsJoined}
use Rattle.cell_nets.proofs.listing.join.Given as goal

abbrev pub invariant-loop-done : goal.invariant-loop-done
invariant-loop-done g l = IsJoined l.args l.bits l.width l.at l.done (tree_of l.e)

abbrev pub decreases-loop-done : goal.decreases-loop-done
decreases-loop-done g l = l.width - l.done
