use Rattle.std.proofs.Common.{◌≡◌, map as map_list, take}
use Rattle.row_net.specs.SitePlace.Inputs.{pointer_input}
use Rattle.row_net.proofs.site_place.placing.pointer_inputs.Given as goal

abbrev pub invariant-loop-number : goal.invariant-loop-number
invariant-loop-number g l = l.all.items ≡ map_list (pointer_input l.bits l.pointers) (take l.number-index l.carried)
