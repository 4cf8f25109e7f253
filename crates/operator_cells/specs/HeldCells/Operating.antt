-- What the cells of an instruction hold that may operate on a map.
use Rattle.std.specs.Prelude.{ℕ, ◌≡◌, ◌++◌, Bool, true, Some, List, length, All}
use Rattle.cell_core.specs.bpf_isa.declared.instruction.Insn.{Insn}
use Rattle.cell_core.specs.xdp_maps.declared.decl.MapDecl.{MapDecl}
use Rattle.cell_core.specs.xdp_maps.State.{MapState}
use Rattle.cell_core.specs.xdp_machine.State.{Machine, PacketIn}
use Rattle.cell_core.specs.xdp_machine.Step.{effect}
use Rattle.cell_core.specs.xdp_machine.Touched.{operation_as}
use Rattle.kind_core.specs.declared.kind.Kinds.{Kinds}
use Rattle.kind_core.specs.Edges.{transferred}
use Rattle.kind_core.specs.Soundness.{at_reference}
use Rattle.cell_core.specs.Cells.{CellView, IsRun, on}
use Rattle.cell_core.specs.Sites.{SiteView, after}
use Rattle.cell_core.specs.Formed.{FitsMap, IsBelow}
use Rattle.operator_cells.specs.Making.{GrowsWith}
use Rattle.operator_cells.specs.declared.held_cells.machine_cells.RegisterCells.{RegisterCells}
use Rattle.operator_cells.specs.HeldCells.RegisterCells.{PointerView, AreHeld, AreInside}
use Rattle.operator_cells.specs.HeldCells.Carrying.{IsKnown}
use Rattle.operator_cells.specs.HeldCells.Steps.{AreRead, ReadsOwn, DoAs}

-- More cells, pointers and sites, these of a node and its guard; where the node is on the path and the reads answer, what is held afterwards
-- holds, by the kinds on an edge, what the effect of the instruction leaves of a machine, and the sites do its operation and leave its maps.
pub record Operates (decls : List MapDecl) (i : Insn) (node guard : ℕ) (is_ref taken : Bool) (k : Kinds) (h next : RegisterCells) (old new : List CellView) (ps qs : List PointerView) (sites sites2 : List SiteView) : Type 0 where
  pub grows : GrowsWith (ReadsOwn sites sites2) old new
  pub more_pointers : List PointerView
  pub pointers_are : qs ≡ ps ++ more_pointers
  pub more : List SiteView
  pub sites_are : sites2 ≡ sites ++ more
  pub own : All (λ s. (s.node ≡ node) × (s.guard ≡ guard)) more
  pub fits : All (FitsMap decls) more
  pub below : All (IsBelow (length new)) more
  pub inside : AreInside decls (length new) qs next (transferred decls k i node is_ref taken)
  pub holds : (packet : PacketIn) (maps : MapState) (v : ℕ → ℕ) (m n : Machine) (refs : List ℕ) → IsRun packet new v → AreRead maps new sites2 v → on (v guard) ≡ true
      → after v maps sites ≡ m.maps → IsKnown decls packet v ps node k h m → at_reference refs m ≡ is_ref → effect refs m i i.op ≡ Some n
      → AreHeld decls packet v qs next (transferred decls k i node is_ref taken) n × (after v maps sites2 ≡ n.maps) × DoAs v m.maps more (operation_as m i i.op)
