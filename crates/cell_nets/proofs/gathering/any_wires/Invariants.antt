use Rattle.std.proofs.Common.{◌≤◌, length, take}
use Rattle.cell_nets.specs.Gathering.{IsGathered}
use Rattle.cell_nets.specs.Wires.{wires_of}
use Rattle.cell_nets.proofs.gathering.any_wires.Given as goal

abbrev pub invariant-loop-a : goal.invariant-loop-a
invariant-loop-a g l = record { few : length l.left.items ≤ 40; gathered : IsGathered l.part (wires_of l.fn.wires.items) (wires_of l.wires.items) (take l.a-index l.args) l.left.items }
