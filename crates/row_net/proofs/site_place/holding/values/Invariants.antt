use Rattle.std.proofs.Common.{◌≡◌, map as map_list, take}
use Rattle.net_core.specs.View.{tree_of}
use Rattle.row_net.specs.SitePlace.Inputs.{input_tree}
use Rattle.row_net.proofs.site_place.holding.values.Given as goal

abbrev pub invariant-loop-input : goal.invariant-loop-input
invariant-loop-input g l = map_list tree_of l.all.items ≡ map_list input_tree (take l.input-index l.inputs)
