use Rattle.std.specs.Prelude.{count_by}
use Rattle.std.proofs.Common.{ℕ, ◌+◌, List, ◌∷◌, take}
use Rattle.hazard_core.specs.cell_core.Cells.{bits_from}
use Rattle.hazard_core.specs.cell_core.Sites.{ProgramView}
use Rattle.hazard_core.specs.Tables.{TableState}
use Rattle.hazard_core.specs.StageValues.{StageValues, takes_key}
use Rattle.cell_nets.specs.Operands.{IsOperand, number_in}
use Rattle.cell_nets.specs.Wires.{wires_of, HasBits, Gives}
use Rattle.overlay_net.specs.Seen.{all_read, AreOf, ShowPending}
use Rattle.overlay_net.proofs.answering.keys_taken.Given as goal

abbrev pub invariant-loop-seen : goal.invariant-loop-seen
invariant-loop-seen g l = record {
  operand : IsOperand l.count;
  bits : HasBits 18 l.count;
  given :
      (p : ProgramView) (t : TableState) (h : StageValues) (m : ℕ) (before : List ℕ) → AreOf p m before l.pending
      → Gives l.part (wires_of l.fn.wires.items) (wires_of l.wires.items) (l.fn.start ∷ all_read l.pending) (λ v. ShowPending v p t h before l.pending) (λ v. bits_from (number_in v l.fn.start + count_by (takes_key p t.decls h) (take l.seen-index before)) 0 18) 18 l.count;
}
