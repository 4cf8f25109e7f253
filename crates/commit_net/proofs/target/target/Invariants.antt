use Rattle.std.specs.Prelude.{fold}
use Rattle.std.proofs.Common.{◌∷◌, take}
use Rattle.overlay_net.specs.cell_core.Cells.{bits_from}
use Rattle.overlay_net.specs.cell_nets.Operands.{IsOperand, number_in}
use Rattle.overlay_net.specs.cell_nets.Wires.{wires_of, always, HasBits, Gives}
use Rattle.commit_net.specs.Targets.{slots_of}
use Rattle.commit_net.proofs.TargetLemmas.{over}
use Rattle.commit_net.proofs.target.target.Given as goal

abbrev pub invariant-loop-own : goal.invariant-loop-own
invariant-loop-own g l = record {
  operand : IsOperand l.slot;
  bits : HasBits l.bits l.slot;
  gives :
      Gives l.part (wires_of l.fn.wires.items) (wires_of l.wires.items) (l.written ∷ l.free ∷ slots_of l.taken) always
      (λ v. fold (over v l.bits (number_in v l.written)) (bits_from (number_in v l.free) 0 l.bits) (take l.own-index l.taken)) l.bits l.slot;
}
