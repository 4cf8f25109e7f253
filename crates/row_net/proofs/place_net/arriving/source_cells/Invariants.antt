use Rattle.std.proofs.Common.{map as map_list, take}
use Rattle.overlay_net.specs.cell_core.View.{cell_of}
use Rattle.cell_nets.specs.Wires.{wires_of}
use Rattle.row_net.specs.PlaceNet.Sources.{IsSourced}
use Rattle.row_net.proofs.place_net.arriving.source_cells.Given as goal

abbrev pub invariant-loop-number : goal.invariant-loop-number
invariant-loop-number g l = IsSourced l.part l.sources l.kept (map_list cell_of l.cells) (take l.number-index l.listed) (wires_of l.fn.wires.items) (wires_of l.wires.items) l.fn.table.items l.table.items
