use Rattle.std.proofs.Common.{◌≡◌, ◌≤◌, ◌^◌, ℕ, List, All, length}
use Rattle.hazard_core.specs.cell_core.Sites.{ProgramView}
use Rattle.hazard_core.specs.StageValues.{StageValues}
use Rattle.hazard_core.specs.Tables.{TableState, table_at}
use Rattle.cell_nets.specs.Operands.{IsOperand}
use Rattle.cell_nets.specs.Wires.{wires_of, HasBits}
use Rattle.read_net.specs.Sites.{IsOwn}
use Rattle.turn_net.specs.TargetNet.Targets.{all_of}
use Rattle.turn_net.proofs.TargetNet.TargetLemmas.{Far}
use Rattle.turn_net.proofs.target_net.targets.each_target.Given as goal

abbrev pub invariant-loop-i : goal.invariant-loop-i
invariant-loop-i g l = record {
  count : length l.all.items ≡ l.i;
  operands : All IsOperand (all_of l.all.items);
  slot_bits : All (λ d. HasBits l.slot_bits d.slot) l.all.items;
  makes_bits : All (λ d. HasBits 1 d.makes) l.all.items;
  stands : (p : ProgramView) (t : TableState) (took : List ℕ) (h : StageValues) (m : ℕ) → length (table_at t m) ≤ 2 ^ l.slot_bits → All (IsOwn p m) l.records → Far l.part l.slot_bits l.records l.seen l.free l.taken p t took h m (wires_of l.fn.wires.items) (wires_of l.wires.items) l.all.items l.i;
}
