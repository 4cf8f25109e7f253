use Rattle.std.proofs.Common.{take, map}
use Rattle.overlay_net.specs.cell_core.View.{cell_of}
use Rattle.cell_nets.specs.Wires.{wires_of}
use Rattle.row_net.specs.SitePlace.PointerNets.{IsPointerRow}
use Rattle.row_net.proofs.site_place.pointing.pointer_nets.Given as goal

abbrev pub invariant-loop-number : goal.invariant-loop-number
invariant-loop-number g l = IsPointerRow l.part (map cell_of l.cells) l.bits (take l.number-index l.made) l.table (wires_of l.fn.wires.items) (wires_of l.wires.items) l.fn.pointers.items l.pointers.items
