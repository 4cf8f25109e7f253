use Rattle.std.proofs.Common.{◌≡◌, length, slice_index}
use Rattle.hazard_core.specs.cell_core.View.{program_of}
use Rattle.overlay_net.specs.cell_nets.Wires.{wires_of}
use Rattle.stage_net.specs.Rows.{AreSought}
use Rattle.stage_net.proofs.searching.searches.Given as goal

abbrev pub invariant-loop-j : goal.invariant-loop-j
invariant-loop-j g l = (length l.slots.items ≡ l.j) × AreSought l.part (program_of l.at.program.now) (slice_index l.at.rows.now) l.at.row l.nets (wires_of l.fn.wires.items) (wires_of l.wires.items) l.slots.items
