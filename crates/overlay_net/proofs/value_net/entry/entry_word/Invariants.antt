use Rattle.std.proofs.Common.{◌≡◌, ℕ, List, ◌∷◌}
use Rattle.hazard_core.specs.cell_core.Sites.{ProgramView}
use Rattle.cell_nets.specs.Operands.{IsOperand}
use Rattle.cell_nets.specs.Wires.{wires_of, HasBits, Gives}
use Rattle.hazard_core.specs.Commits.{word_at}
use Rattle.hazard_core.specs.StageValues.{StageValues}
use Rattle.hazard_core.specs.declared.pointer.Pointer.{Pointer}
use Rattle.hazard_core.specs.Tables.{TableState, decl_of}
use Rattle.overlay_net.specs.ValueNet.Pendings.{all_taken, AreOf, ShowPendings, ShowsEntry, HasValue}
use Rattle.overlay_net.proofs.ValueNet.EntryLaws.{so_far}
use Rattle.overlay_net.proofs.value_net.entry.entry_word.Given as goal

abbrev pub invariant-loop-pending : goal.invariant-loop-pending
invariant-loop-pending g l = record {
  operand : IsOperand l.word;
  bits : HasBits 64 l.word;
  gives :
      (p : ProgramView) (t : TableState) (h : StageValues) (before : List ℕ) (m : ℕ) (at : Pointer) → AreOf p m before l.fn.pendings → decl_of t.decls m ≡ l.fn.decl → HasValue t m at
      → Gives l.fn.part (wires_of l.fn.wires.items) (wires_of l.wires.items) (l.fn.under ∷ l.fn.first ∷ all_taken l.fn.pendings) (λ v. ShowsEntry v t m l.fn.w at l.fn.under l.fn.first × ShowPendings v p t h before l.fn.pendings)
      (λ v. word_at (so_far l.fn.part p t h m l.fn.w at l.fn.under l.fn.first before l.fn.pendings l.pending-index) l.fn.w) 64 l.word;
}
