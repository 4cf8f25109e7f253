use Rattle.std.specs.List.{list_any}
use Rattle.std.proofs.Common.{take}
use Rattle.overlay_net.specs.cell_core.Cells.{bit}
use Rattle.overlay_net.specs.cell_nets.Wires.{wires_of, always, Gives}
use Rattle.read_net.specs.TouchNet.Marking.{mark_operands, shown_reload}
use Rattle.read_net.proofs.touch_net.marks.reload_net.Given as goal

abbrev pub invariant-loop-mark : goal.invariant-loop-mark
invariant-loop-mark g l = Gives l.part (wires_of l.fn.wires.items) (wires_of l.wires.items) (mark_operands l.marks) always (λ v. bit (list_any (shown_reload v) (take l.mark-index l.marks))) 1 l.reload
