use Rattle.std.proofs.Common.{slice_index}
use Rattle.hazard_core.specs.cell_core.View.{program_of}
use Rattle.overlay_net.specs.cell_nets.Wires.{wires_of}
use Rattle.stage_net.specs.Rows.{AreRead}
use Rattle.stage_net.proofs.reads.read_sites.Given as goal

abbrev pub invariant-loop-j : goal.invariant-loop-j
invariant-loop-j g l = AreRead l.part (program_of l.at.program.now) (slice_index l.at.rows.now) l.at.row l.nets l.slots 0 l.j (wires_of l.fn.wires.items) (wires_of l.wires.items) l.fn.table.items l.table.items l.fn.pointers.items l.pointers.items
