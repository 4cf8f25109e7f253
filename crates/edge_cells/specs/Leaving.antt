-- The edges that leave a node along a jump, and ends.
use Rattle.std.specs.Prelude.{ℕ, ◌≡◌, ◌<◌, ◌≤◌, ◌&&◌, Bool, true, false, Option, Some, None, List, length, slice_index}
use Rattle.xdp_machine.specs.bpf_isa.declared.operation.Width.{Width}
use Rattle.xdp_machine.specs.bpf_isa.declared.operation.JumpCode.{JumpCode}
use Rattle.xdp_machine.specs.bpf_isa.declared.operation.Src.{Src}
use Rattle.xdp_machine.specs.bpf_isa.declared.operation.Src.TheVariants.{K, X}
use Rattle.xdp_machine.specs.bpf_isa.declared.operation.Op.TheVariants.{Ja, Jump}
use Rattle.xdp_machine.specs.bpf_isa.declared.instruction.Insn.{Insn}
use Rattle.xdp_machine.specs.xdp_maps.declared.decl.MapDecl.{MapDecl}
use Rattle.xdp_machine.specs.State.{Machine, PacketIn}
use Rattle.xdp_machine.specs.State as machine
use Rattle.xdp_machine.specs.Step as step
use Rattle.xdp_machine.specs.Step.{exits}
use Rattle.xdp_machine.specs.Step.{Ends}
use Rattle.xdp_machine.specs.Values as values
use Rattle.xdp_machine.specs.Pointers.{compared}
use Rattle.xdp_machine.specs.Runs.{leaves}
use Rattle.kind_core.specs.declared.kind.Kind.TheVariants.{Num}
use Rattle.kind_core.specs.declared.kind.Kinds.{Kinds}
use Rattle.kind_core.specs.Kinds.{register}
use Rattle.kind_core.specs.Tests.{passed}
use Rattle.kind_core.specs.Effects.{effect_of, verdict, operand}
use Rattle.kind_core.specs.Edges.{agrees, decided, transferred}
use Rattle.cell_core.specs.Cells.{CellView, IsRun, on, bit}
use Rattle.operator_cells.specs.Making.{Grows}
use Rattle.operator_cells.specs.declared.held_cells.machine_cells.RegisterCells.{RegisterCells}
use Rattle.operator_cells.specs.declared.held_cells.way.Way.{Way}
use Rattle.operator_cells.specs.declared.held_cells.way.Exit.{Exit}
use Rattle.operator_cells.specs.HeldCells.RegisterCells.{PointerView, AreInside}
use Rattle.operator_cells.specs.HeldCells.Carrying.{IsKnown}
use Rattle.operator_cells.specs.HeldCells.Steps.{IsLeft}
use Rattle.edge_cells.specs.Testing.{is_open, IsReady, Tests}

-- the cell of the second operand, or its pointer; an immediate number has none
abbrev pub operand_held : RegisterCells → Insn → Src → ℕ
operand_held h i K = 0
operand_held h i X = slice_index h.registers i.src

-- The condition of a jump at a node tests what its kinds and cells say of its operands.
abbrev pub TestsJump : List PointerView → Kinds → RegisterCells → Insn → Width → JumpCode → Src → List CellView → List CellView → ℕ → Type 0
TestsJump ps k h i w c s old new condition = Tests ps w c (register k i.dst) (slice_index h.registers i.dst) (operand k i s) (operand_held h i s) old new condition

-- whether a jump goes along an edge by its condition; without one it goes along the only edge
abbrev pub goes : (ℕ → ℕ) → Option ℕ → Bool → Bool
goes v None taken = true
goes v (Some c) taken = agrees taken (on (v c))

-- the condition's cell is there, and its value a bit
abbrev pub IsThere : ℕ → Option ℕ → Type 0
IsThere n None = Unit {0}
IsThere n (Some c) = c < n

abbrev pub IsBit : (ℕ → ℕ) → Option ℕ → Type 0
IsBit v None = Unit {0}
IsBit v (Some c) = v c < 2

-- the row of a condition, 0 where there is none
abbrev pub condition_row : (ℕ → ℕ) → Option ℕ → ℕ
condition_row row None = 0
condition_row row (Some c) = row c

-- More cells, and one that is on where the guard is and the jump goes along the edge.
pub record Branches (old new : List CellView) (guard : ℕ) (condition : Option ℕ) (taken : Bool) (c : ℕ) : Type 0 where
  pub grows : Grows old new
  pub there : c < length new
  pub value : (packet : PacketIn) (v : ℕ → ℕ) → IsRun packet new v → v guard < 2 → IsBit v condition → v c ≡ bit (on (v guard) && goes v condition taken)

-- An edge of a jump: its bit, the kinds after the jump, and what is held at the node.
pub record IsBranch (decls : List MapDecl) (old new : List CellView) (node : ℕ) (k : Kinds) (h : RegisterCells) (guard : ℕ) (i : Insn) (condition : Option ℕ) (taken : Bool) (to : ℕ) (e : Way) : Type 0 where
  pub branches : Branches old new guard condition taken e.bit
  pub leads : e.to ≡ to
  pub kinds_are : e.kinds ≡ transferred decls k i node false taken
  pub held_is : e.held ≡ h

-- A jump that is allowed and undecided has a condition that needs a cell.
abbrev pub UndecidedAreOpen : Type 0
UndecidedAreOpen =
    (decls : List MapDecl) (k : Kinds) (i : Insn) (w : Width) (c : JumpCode) (s : Src) → i.op ≡ Jump w c s → verdict (effect_of decls k i) ≡ passed → decided k i ≡ None
    → is_open w c (register k i.dst) (operand k i s) ≡ true

-- Where a machine is known at a node the bit of a jump's condition is 1 exactly where the machine takes the jump.
abbrev pub JumpsAreTested : Type 0
JumpsAreTested =
    (decls : List MapDecl) (packet : PacketIn) (v : ℕ → ℕ) (ps : List PointerView) (node : ℕ) (k : Kinds) (h : RegisterCells) (m : Machine) (i : Insn) (w : Width) (c : JumpCode) (s : Src) (old new : List CellView) (condition : ℕ) (taken : Bool)
    → TestsJump ps k h i w c s old new condition → IsRun packet new v → IsKnown decls packet v ps node k h m → i.dst ≤ 10 → i.src ≤ 10
    → compared w c (machine.register m.registers i.dst) (step.operand m.registers i s) ≡ Some taken → v condition ≡ bit taken

-- What is held at a jump is there along its edges.
abbrev pub EdgesAreInside : Type 0
EdgesAreInside =
    (decls : List MapDecl) (n : ℕ) (ps : List PointerView) (k : Kinds) (h : RegisterCells) (i : Insn) (node : ℕ) (w : Width) (c : JumpCode) (s : Src) (taken : Bool)
    → i.op ≡ Jump w c s → AreInside decls n ps h k → AreInside decls n ps h (transferred decls k i node false taken)

-- What is known at an allowed jump and held there is known and held along the edge that the machine takes: of what a lookup answered, that
-- it is null or an entry.
abbrev pub EdgesAreKnown : Type 0
EdgesAreKnown =
    (decls : List MapDecl) (packet : PacketIn) (v : ℕ → ℕ) (ps : List PointerView) (node to place : ℕ) (k : Kinds) (h : RegisterCells) (m : Machine) (i : Insn) (w : Width) (c : JumpCode) (s : Src) (taken : Bool)
    → IsKnown decls packet v ps node k h m → node ≤ to → i.op ≡ Jump w c s → verdict (effect_of decls k i) ≡ passed
    → compared w c (machine.register m.registers i.dst) (step.operand m.registers i s) ≡ Some taken
    → IsKnown decls packet v ps to (transferred decls k i node false taken) h (record m { place = place })

-- The same along the edge of a jump without a condition.
abbrev pub SingleEdgesAreKnown : Type 0
SingleEdgesAreKnown =
    (decls : List MapDecl) (packet : PacketIn) (v : ℕ → ℕ) (ps : List PointerView) (node to place : ℕ) (k : Kinds) (h : RegisterCells) (m : Machine) (i : Insn) (w : Width) (taken : Bool)
    → IsKnown decls packet v ps node k h m → node ≤ to → i.op ≡ Ja w → IsKnown decls packet v ps to (transferred decls k i node false taken) h (record m { place = place })

-- What the operands of a jump take is there.
abbrev pub OperandsAreReady : Type 0
OperandsAreReady =
    (decls : List MapDecl) (n : ℕ) (ps : List PointerView) (k : Kinds) (h : RegisterCells) (i : Insn) (s : Src) → AreInside decls n ps h k → i.dst ≤ 10 → i.src ≤ 10
    → IsReady n ps (register k i.dst) (slice_index h.registers i.dst) × IsReady n ps (operand k i s) (operand_held h i s)

-- The cells of an end hold what the packet leaves there.
abbrev pub EndsAreLeft : Type 0
EndsAreLeft =
    (decls : List MapDecl) (packet : PacketIn) (v : ℕ → ℕ) (ps : List PointerView) (node : ℕ) (k : Kinds) (x : Exit) (m : Machine) (verdict : ℕ)
    → IsKnown decls packet v ps node k x.held m → register k 0 ≡ Num x.verdict → exits (values.number_in (machine.register m.registers 0)) ≡ Ends verdict
    → IsLeft packet v x (leaves verdict m)
