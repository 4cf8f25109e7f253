use Rattle.std.proofs.Common.{take, map}
use Rattle.overlay_net.specs.cell_core.View.{cell_of}
use Rattle.cell_nets.specs.Wires.{wires_of}
use Rattle.row_net.specs.Made.{IsRow}
use Rattle.row_net.proofs.row.row_nets.Given as goal

abbrev pub invariant-loop-number : goal.invariant-loop-number
invariant-loop-number g l = IsRow l.part (map cell_of l.cells) (take l.number-index l.made) (wires_of l.fn.wires.items) (wires_of l.wires.items) l.fn.table.items l.table.items
