use Rattle.std.specs.Str.{bytes_eq}
use Rattle.std.proofs.Common.{◌+◌, ◌-◌, ◌*◌, ◌≤◌, ◌++◌, drop, map}
use Rattle.hazard_core.specs.cell_core.Cells.{bit}
use Rattle.hazard_core.specs.cell_core.Sites.{bytes_of}
use Rattle.cell_nets.specs.Operands.{number_in}
use Rattle.cell_nets.specs.Wires.{wires_of, always, Gives}
use Rattle.overlay_net.proofs.keys.same_key.Given as goal

abbrev pub invariant-loop-at : goal.invariant-loop-at
invariant-loop-at g l = record {
  within : 8 * l.at ≤ l.bytes + 7;
  given : Gives l.part (wires_of l.fn.wires.items) (wires_of l.wires.items) (l.a ++ l.b) always (λ v. bit (bytes_eq (bytes_of (l.bytes - 8 * l.at) (map (number_in v) (drop l.at l.a))) (bytes_of (l.bytes - 8 * l.at) (map (number_in v) (drop l.at l.b))))) 1 l.same;
}

abbrev pub decreases-loop-at : goal.decreases-loop-at
decreases-loop-at g l = l.at
