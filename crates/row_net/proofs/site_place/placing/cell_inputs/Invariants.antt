use Rattle.std.proofs.Common.{◌≡◌, map as map_list, take}
use Rattle.overlay_net.specs.cell_core.View.{cell_of}
use Rattle.row_net.specs.SitePlace.Inputs.{cell_input}
use Rattle.row_net.proofs.site_place.placing.cell_inputs.Given as goal

abbrev pub invariant-loop-number : goal.invariant-loop-number
invariant-loop-number g l = l.all.items ≡ map_list (cell_input (map_list cell_of l.cells) l.table) (take l.number-index l.carried)
