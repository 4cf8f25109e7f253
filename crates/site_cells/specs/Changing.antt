-- Atomic changes.
use Rattle.std.specs.Prelude.{ℕ, ◌≡◌, ◌<◌, if◌then◌else◌, Bool, true, false, Option, Some, None, List, length}
use Rattle.std.specs.Int.{w64, cast_unsigned}
use Rattle.cell_core.specs.bpf_isa.declared.operation.Size.{Size}
use Rattle.cell_core.specs.bpf_isa.declared.operation.Size.TheVariants.{Dw}
use Rattle.cell_core.specs.bpf_isa.declared.instruction.Insn.{Insn}
use Rattle.cell_core.specs.xdp_maps.declared.decl.MapDecl.{MapDecl}
use Rattle.cell_core.specs.xdp_maps.declared.change.ChangeKind.{ChangeKind}
use Rattle.cell_core.specs.xdp_machine.Values.{number_in}
use Rattle.cell_core.specs.xdp_machine.State.{Machine, PacketIn}
use Rattle.cell_core.specs.xdp_machine.State as machine
use Rattle.cell_core.specs.xdp_machine.Atomics.{fetches, kind_of}
use Rattle.cell_core.specs.xdp_machine.Touched.{answers_old}
use Rattle.kind_core.specs.declared.number.Number.{Number}
use Rattle.kind_core.specs.declared.kind.Kind.TheVariants.{Num}
use Rattle.kind_core.specs.declared.kind.Kinds.{Kinds}
use Rattle.kind_core.specs.Kinds.{register}
use Rattle.kind_core.specs.Access.{compares}
use Rattle.cell_core.specs.declared.site.Atomic.{Atomic}
use Rattle.cell_core.specs.Cells.{CellView, IsRun}
use Rattle.operator_cells.specs.Making.{Grows}
use Rattle.operator_cells.specs.declared.held_cells.machine_cells.RegisterCells.{RegisterCells}
use Rattle.operator_cells.specs.HeldCells.RegisterCells.{PointerView}
use Rattle.operator_cells.specs.HeldCells.Carrying.{IsKnown}

abbrev pub code_of : Insn → ℕ
code_of i = cast_unsigned w64 i.imm

-- the kind of change that an instruction makes, if it makes one
abbrev pub IsKind : Insn → ChangeKind → Type 0
IsKind i kind = (x : ChangeKind) → kind_of (code_of i) ≡ Some x → kind ≡ x

abbrev pub is_wide : Size → Bool
is_wide Dw = true
is_wide size = false

-- the same with the width of the number, and whether the old one is answered
pub record IsAtomic (i : Insn) (size : Size) (a : Atomic) : Type 0 where
  pub kind : IsKind i a.kind
  pub wide : a.wide ≡ is_wide size
  pub fetch : a.fetch ≡ answers_old a.kind (code_of i)

-- the register that gets the old number, if one does
abbrev pub taken_by : Insn → Option ℕ
taken_by i = if compares i then Some 0 else (if fetches (code_of i) then Some i.src else None)

-- More cells, and among them those of the source and of what is compared, which is 0 where nothing is.
pub record HoldsOperands (k : Kinds) (h : RegisterCells) (i : Insn) (old new : List CellView) (a b : ℕ) : Type 0 where
  pub grows : Grows old new
  pub source_there : a < length new
  pub compared_there : b < length new
  pub source : (decls : List MapDecl) (packet : PacketIn) (v : ℕ → ℕ) (ps : List PointerView) (node : ℕ) (m : Machine) (n : Number) → IsRun packet new v → IsKnown decls packet v ps node k h m
      → register k i.src ≡ Num n → number_in (machine.register m.registers i.src) ≡ Some (v a)
  pub compared : (decls : List MapDecl) (packet : PacketIn) (v : ℕ → ℕ) (ps : List PointerView) (node : ℕ) (m : Machine) (n : Number) → IsRun packet new v → IsKnown decls packet v ps node k h m
      → compares i ≡ true → register k 0 ≡ Num n → number_in (machine.register m.registers 0) ≡ Some (v b)
  pub none : (packet : PacketIn) (v : ℕ → ℕ) → IsRun packet new v → compares i ≡ false → v b ≡ 0
