use Rattle.net_core.specs.View.{tree_of}
use Rattle.cell_nets.specs.Listing.{IsChosen}
use Rattle.cell_nets.proofs.listing.phi.Given as goal

abbrev pub invariant-loop-at : goal.invariant-loop-at
invariant-loop-at g l = IsChosen l.args l.width l.at (tree_of l.chosen)

abbrev pub decreases-loop-at : goal.decreases-loop-at
decreases-loop-at g l = l.at
