-- What the operands of a jump take.
use Rattle.std.proofs.Common.{ℕ, ◌≤◌, List}
use Rattle.std.specs.Prelude.{slice_index}
use Rattle.xdp_machine.specs.bpf_isa.declared.operation.Src.{Src}
use Rattle.xdp_machine.specs.bpf_isa.declared.operation.Src.TheVariants.{K, X}
use Rattle.xdp_machine.specs.bpf_isa.declared.instruction.Insn.{Insn}
use Rattle.xdp_machine.specs.xdp_maps.declared.decl.MapDecl.{MapDecl}
use Rattle.kind_core.specs.declared.number.Number.TheVariants.{Known, Between}
use Rattle.kind_core.specs.declared.kind.Kind.{Kind}
use Rattle.kind_core.specs.declared.kind.Kind.TheVariants.{Num, Var, Maybe}
use Rattle.kind_core.specs.declared.kind.Kinds.{Kinds}
use Rattle.kind_core.specs.Kinds.{register}
use Rattle.kind_core.specs.Effects.{operand}
use Rattle.operator_cells.specs.declared.held_cells.machine_cells.RegisterCells.{RegisterCells}
use Rattle.operator_cells.specs.HeldCells.RegisterCells.{PointerView, Counts, AreInside}
use Rattle.edge_cells.specs.Testing.{IsReady}
use Rattle.edge_cells.specs.Leaving.{operand_held, OperandsAreReady}

ready : (decls : List MapDecl) (n : ℕ) (ps : List PointerView) (k : Kind) (c : ℕ) → Counts decls n ps k c → IsReady n ps k c
ready decls n ps (Num (Between lo hi)) c h = h
ready decls n ps (Var b f) c h = h
ready decls n ps (Num (Known a)) c h = tt
ready decls n ps (Maybe q j) c h = (h.0, h.1.found)
ready decls n ps k c h = tt

operand-ready : (decls : List MapDecl) (n : ℕ) (ps : List PointerView) (k : Kinds) (h : RegisterCells) (i : Insn) (s : Src) → AreInside decls n ps h k → i.src ≤ 10 → IsReady n ps (operand k i s) (operand_held h i s)
operand-ready decls n ps k h i K inside l = tt
operand-ready decls n ps k h i X inside l = ready decls n ps (register k i.src) (slice_index h.registers i.src) (inside.registers i.src l)

pub operands_are_ready : OperandsAreReady
operands_are_ready decls n ps k h i s inside dst src =
    (ready decls n ps (register k i.dst) (slice_index h.registers i.dst) (inside.registers i.dst dst), operand-ready decls n ps k h i s inside src)
