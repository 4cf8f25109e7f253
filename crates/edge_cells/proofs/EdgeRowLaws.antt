-- The rows of what is held along the edges of a jump.
use Rattle.std.proofs.Common.{◌≡◌, ℕ, ◌≤◌, Bool, false, List, ap, arith}
use Rattle.xdp_machine.specs.bpf_isa.declared.operation.Width.{Width}
use Rattle.xdp_machine.specs.bpf_isa.declared.operation.JumpCode.{JumpCode}
use Rattle.xdp_machine.specs.bpf_isa.declared.operation.Src.{Src}
use Rattle.xdp_machine.specs.bpf_isa.declared.operation.Op.TheVariants.{Ja, Jump}
use Rattle.xdp_machine.specs.bpf_isa.declared.instruction.Insn.{Insn}
use Rattle.xdp_machine.specs.xdp_maps.declared.decl.MapDecl.{MapDecl}
use Rattle.kind_core.specs.declared.kind.Kind.{Kind}
use Rattle.kind_core.specs.declared.kind.Kinds.{Kinds}
use Rattle.kind_core.specs.Edges.{transferred}
use Rattle.operator_cells.specs.declared.held_cells.machine_cells.RegisterCells.{RegisterCells}
use Rattle.operator_cells.specs.HeldCells.RegisterCells.{PointerView}
use Rattle.operator_cells.specs.HeldCells.Rows.{value_row, number_at, held_row}
use Rattle.edge_cells.proofs.JumpKindLaws.{Along, same, null, entry, further, IsEdge, along_at, edge_of, single_edge}

-- what a lookup answered has the same cells as an entry, and none as null
value_along : {P : ℕ → Type 0} (row : ℕ → ℕ) (ps : List PointerView) (a b : Kind) (c : ℕ) → Along P a b → value_row row ps b c ≤ value_row row ps a c
value_along row ps a b c (same k) = omega arith
value_along row ps a b c (null q n) = omega arith
value_along row ps a b c (entry q n p) = omega arith
value_along row ps a b c (further x y f) = omega arith

held_along : {P : ℕ → Type 0} (row : ℕ → ℕ) (ps : List PointerView) (h : RegisterCells) (k j : Kinds) (place : ℕ) → IsEdge P k j → held_row row ps h j place ≤ held_row row ps h k place
held_along row ps h k j place e = value_along row ps _ _ (number_at h place) (along_at k j place e)

-- Along an edge of a conditional jump nothing that is held stands later.
pub jump_held_row : (decls : List MapDecl) (row : ℕ → ℕ) (ps : List PointerView) (h : RegisterCells) (k : Kinds) (i : Insn) (node : ℕ) (w : Width) (c : JumpCode) (s : Src) (taken : Bool) (place : ℕ) → i.op ≡ Jump w c s
    → held_row row ps h (transferred decls k i node false taken) place ≤ held_row row ps h k place
jump_held_row decls row ps h k i node w c s taken place is = held_along row ps h k (transferred decls k i node false taken) place (edge_of decls k i node w c s taken is)

-- Along the edge of a jump without a condition all stands where it stood.
pub single_held_row : (decls : List MapDecl) (row : ℕ → ℕ) (ps : List PointerView) (h : RegisterCells) (k : Kinds) (i : Insn) (node : ℕ) (w : Width) (taken : Bool) (place : ℕ) → i.op ≡ Ja w
    → held_row row ps h (transferred decls k i node false taken) place ≡ held_row row ps h k place
single_held_row decls row ps h k i node w taken place is = ap (λ (j : Kinds). held_row row ps h j place) (single_edge decls k i node w taken is)
