use Rattle.std.proofs.Common.{◌≡◌, All, ◌∷◌, ◌++◌, List, take, length}
use Rattle.hazard_core.specs.xdp_maps.declared.decl.MapDecl.{MapDecl}
use Rattle.hazard_core.specs.cell_core.Cells.{on}
use Rattle.hazard_core.specs.cell_core.Sites.{ProgramView}
use Rattle.cell_nets.specs.Operands.{number_in, IsOperand}
use Rattle.cell_nets.specs.Wires.{wires_of, HasBits}
use Rattle.turn_net.specs.Nets.{all_read, AreRecords}
use Rattle.turn_net.specs.Steps.{Leads, HasSteps, AreChosen}
use Rattle.turn_net.proofs.choosing.choose_each.Given as goal

abbrev pub invariant-loop-record : goal.invariant-loop-record
invariant-loop-record g l = record {
  has : HasSteps l.bits l.last;
  count : length l.chosen.items ≡ l.record-index;
  operands : All IsOperand l.chosen.items;
  bits : All (HasBits 1) l.chosen.items;
  leads :
      (p : ProgramView) (decls : List MapDecl) → AreRecords p decls l.records
      → Leads l.part (wires_of l.fn.wires.items) (wires_of l.wires.items) (l.done ∷ l.fn.start.free ∷ l.fn.start.done ∷ all_read l.records) (l.last.free ∷ l.last.done ∷ l.chosen.items ++ l.done ∷ l.fn.start.free ∷ l.fn.start.done ∷ all_read l.records)
      (λ v. AreChosen p decls v (on (number_in v l.fn.start.free)) (number_in v l.done) (number_in v l.fn.start.done) (take l.record-index l.records) l.chosen.items l.last);
}
