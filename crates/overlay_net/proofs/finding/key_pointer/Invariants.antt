use Rattle.std.specs.Prelude.{fold}
use Rattle.std.proofs.Common.{◌≡◌, ℕ, List, ◌∷◌, ◌++◌, take}
use Rattle.hazard_core.specs.cell_core.Sites.{ProgramView, site_at}
use Rattle.hazard_core.specs.Tables.{TableState, decl_of, table_at}
use Rattle.hazard_core.specs.StageValues.{StageValues, asked_key, slot_pointer}
use Rattle.hazard_core.specs.Overlay.{found_over}
use Rattle.cell_nets.specs.Operands.{IsOperand}
use Rattle.cell_nets.specs.Wires.{wires_of, HasBits, Gives}
use Rattle.overlay_net.specs.SiteOperands.Pointers.{pointer_number}
use Rattle.overlay_net.specs.SiteOperands.Sites.{operands_of, all_of, ShowsAsked}
use Rattle.overlay_net.specs.Reading.{ShowsSlot}
use Rattle.overlay_net.specs.Seen.{all_read, AreOf, ShowPending}
use Rattle.overlay_net.proofs.finding.key_pointer.Given as goal

abbrev pub invariant-loop-seen : goal.invariant-loop-seen
invariant-loop-seen g l = record {
  operand : IsOperand l.found;
  bits : HasBits l.bits l.found;
  given :
      (p : ProgramView) (t : TableState) (h : StageValues) (before : List ℕ) (j : ℕ) → decl_of t.decls (site_at p.sites j).map ≡ l.decl → AreOf p (site_at p.sites j).map before l.pending
      → Gives l.part (wires_of l.fn.wires.items) (wires_of l.wires.items) (l.fn.slot ∷ all_of (operands_of l.nets) ++ all_read l.pending) (λ v. ShowsAsked v p h j (operands_of l.nets) × ShowsSlot v p t h j l.fn.slot × ShowPending v p t h before l.pending)
      (λ v. pointer_number (fold (found_over p t h (asked_key t.decls h (site_at p.sites j))) (slot_pointer (table_at t (site_at p.sites j).map) (asked_key t.decls h (site_at p.sites j))) (take l.seen-index before))) l.bits l.found;
}
