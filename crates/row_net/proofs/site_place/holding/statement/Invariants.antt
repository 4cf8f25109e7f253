use Rattle.std.proofs.Common.{◌≡◌, length, map as map_list}
use Rattle.net_core.specs.Nets.{SEnd}
use Rattle.net_core.specs.Chains.{statements_before}
use Rattle.net_core.specs.View.{tree_of, statements_of}
use Rattle.row_net.specs.PlaceNet.PlaceNets.{sets_from}
use Rattle.row_net.proofs.site_place.holding.statement.Given as goal

abbrev pub invariant-loop-value : goal.invariant-loop-value
invariant-loop-value g l = statements_before (sets_from 0 (map_list tree_of l.left.items)) (statements_of l.list) ≡ statements_before (sets_from 0 (map_list tree_of l.fn.values.items)) SEnd

abbrev pub decreases-loop-value : goal.decreases-loop-value
decreases-loop-value g l = length l.left.items
