-- What is known of a machine on the path, and what the cells of one instruction carry from the machine before it to the one after it.
use Rattle.std.specs.Prelude.{ℕ, ◌≡◌, ◌≢◌, ◌<◌, ◌≤◌, Bool, Some, Option, Ok, List, length, get_or}
use Rattle.cell_core.specs.bpf_isa.declared.instruction.Insn.{Insn}
use Rattle.cell_core.specs.xdp_maps.declared.decl.MapDecl.{MapDecl}
use Rattle.cell_core.specs.xdp_machine.Values.{Value}
use Rattle.cell_core.specs.xdp_machine.State.{Machine, PacketIn}
use Rattle.cell_core.specs.xdp_machine.Ranges.{IsInRange}
use Rattle.cell_core.specs.xdp_machine.Step.{effect}
use Rattle.kind_core.specs.declared.kind.Kind.{Kind}
use Rattle.kind_core.specs.declared.kind.Kind.TheVariants.{Unset}
use Rattle.kind_core.specs.declared.kind.Kinds.{Kinds}
use Rattle.kind_core.specs.Edges.{transferred}
use Rattle.kind_core.specs.Describes.{World}
use Rattle.kind_core.specs.Soundness.{Stands, at_reference}
use Rattle.cell_core.specs.Cells.{CellView, IsRun}
use Rattle.operator_cells.specs.Making.{Grows}
use Rattle.operator_cells.specs.declared.held_cells.machine_cells.RegisterCells.{RegisterCells}
use Rattle.operator_cells.specs.HeldCells.RegisterCells.{PointerView, Holds, Counts, AreHeld, AreInside}

-- What is known of a machine at a node describes it, its values are in their ranges, and cells hold what it holds.
pub record IsKnown (decls : List MapDecl) (packet : PacketIn) (v : ℕ → ℕ) (ps : List PointerView) (node : ℕ) (k : Kinds) (h : RegisterCells) (m : Machine) : Type 0 where
  pub world : World
  pub node_is : world.node ≤ node
  pub stands : Stands world k m
  pub in_range : IsInRange m
  pub decls_are : m.maps.decls ≡ decls
  -- the stack begins as zeros and takes what may be read, so no slot of it is unset
  pub filled : (s : ℕ) → s < 64 → get_or k.slots s Unset ≢ Unset
  pub held : AreHeld decls packet v ps h k m

-- More cells, and number c holds, by this kind, what comes of a machine where something does.
pub record Gives (decls : List MapDecl) (ps : List PointerView) (node : ℕ) (k : Kinds) (h : RegisterCells) (old new : List CellView) (x : Kind) (c : ℕ) (made : Machine → Option Value) : Type 0 where
  pub grows : Grows old new
  pub counts : Counts decls (length new) ps x c
  pub holds : (packet : PacketIn) (v : ℕ → ℕ) (m : Machine) (y : Value) → IsRun packet new v → IsKnown decls packet v ps node k h m → made m ≡ Some y → Holds decls v ps x c y

-- More cells, and what is held afterwards holds, by the kinds on an edge, what the effect of an instruction leaves of a machine.
pub record Carries (decls : List MapDecl) (ps : List PointerView) (i : Insn) (node : ℕ) (is_ref taken : Bool) (k : Kinds) (h next : RegisterCells) (old new : List CellView) : Type 0 where
  pub grows : Grows old new
  pub inside : AreInside decls (length new) ps next (transferred decls k i node is_ref taken)
  pub holds : (packet : PacketIn) (v : ℕ → ℕ) (m n : Machine) (refs : List ℕ) → IsRun packet new v → IsKnown decls packet v ps node k h m → at_reference refs m ≡ is_ref
      → effect refs m i i.op ≡ Some n → AreHeld decls packet v ps next (transferred decls k i node is_ref taken) n
