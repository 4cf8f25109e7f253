use Rattle.std.proofs.Common.{◌∷◌, ◌++◌, take}
use Rattle.overlay_net.specs.cell_nets.Wires.{wires_of, always, Gives}
use Rattle.read_net.specs.TouchNet.Touching.{change_operands, own_operands}
use Rattle.read_net.proofs.TouchNet.EntryLemmas.{fold_of}
use Rattle.read_net.proofs.touch_net.entry.entry_touched.Given as goal

abbrev pub invariant-loop-own : goal.invariant-loop-own
invariant-loop-own g l = Gives l.part (wires_of l.fn.wires.items) (wires_of l.wires.items) (l.pointer ∷ change_operands l.change ++ own_operands l.owns) always (fold_of l.bytes l.pointer l.change (take l.own-index l.owns)) 1 l.touched
