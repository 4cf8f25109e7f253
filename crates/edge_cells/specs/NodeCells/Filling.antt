-- No slot of the stack is unset.
use Rattle.std.specs.Prelude.{ℕ, ◌≡◌, Bool, true, false, List}
use Rattle.xdp_machine.specs.bpf_isa.declared.operation.Width.{Width}
use Rattle.xdp_machine.specs.bpf_isa.declared.operation.JumpCode.{JumpCode}
use Rattle.xdp_machine.specs.bpf_isa.declared.operation.Src.{Src}
use Rattle.xdp_machine.specs.bpf_isa.declared.operation.Op.TheVariants.{Jump}
use Rattle.xdp_machine.specs.bpf_isa.declared.instruction.Insn.{Insn}
use Rattle.xdp_machine.specs.xdp_maps.declared.decl.MapDecl.{MapDecl}
use Rattle.kind_core.specs.declared.kind.Kinds.{Kinds}
use Rattle.kind_core.specs.Edges.{transferred}
use Rattle.edge_cells.specs.Widening.{AreFilled}
use Rattle.edge_cells.specs.NodeCells.Ends.{leads_on}

-- Where no slot is unset before an instruction that leads on none is after it.
abbrev pub EdgesAreFilled : Type 0
EdgesAreFilled = (decls : List MapDecl) (k : Kinds) (i : Insn) (node : ℕ) (is_ref : Bool) → leads_on i.op ≡ true → AreFilled k → AreFilled (transferred decls k i node is_ref false)

-- The same along the edges of a jump.
abbrev pub JumpsAreFilled : Type 0
JumpsAreFilled =
    (decls : List MapDecl) (k : Kinds) (i : Insn) (node : ℕ) (w : Width) (c : JumpCode) (s : Src) (taken : Bool) → i.op ≡ Jump w c s → AreFilled k → AreFilled (transferred decls k i node false taken)
