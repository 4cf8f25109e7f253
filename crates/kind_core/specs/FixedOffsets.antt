-- Where offsets do not vary, no register and no slot holds a place that is not known.
use Rattle.std.specs.Prelude.{ℕ, ◌≡◌, Bool, true, false, List, get_or}
use Rattle.xdp_machine.specs.bpf_isa.declared.instruction.Insn.{Insn}
use Rattle.xdp_machine.specs.xdp_maps.declared.decl.MapDecl.{MapDecl}
use Rattle.kind_core.specs.declared.kind.Kind.{Kind}
use Rattle.kind_core.specs.declared.kind.Kind.TheVariants.{Unset, Var}
use Rattle.kind_core.specs.declared.kind.Kinds.{Kinds}
use Rattle.kind_core.specs.declared.kind.Offsets.TheVariants.{Fixed}
use Rattle.kind_core.specs.Kinds.{start}
use Rattle.kind_core.specs.Joins.{joined}
use Rattle.kind_core.specs.Edges.{transferred}

abbrev pub is_var : Kind → Bool
is_var (Var b f) = true
is_var k = false

abbrev pub HaveNoVar : List Kind → Type 0
HaveNoVar ks = (s : ℕ) → is_var (get_or ks s Unset) ≡ false

pub record IsFixed (k : Kinds) : Type 0 where
  pub offsets : k.offsets ≡ Fixed
  pub registers : HaveNoVar k.registers
  pub slots : HaveNoVar k.slots

-- So it is at the start, where edges meet, and after each instruction.
pub record StaysFixed : Type 0 where
  pub starts : IsFixed (start Fixed)
  pub joins : (k j : Kinds) → IsFixed k → IsFixed j → IsFixed (joined k j)
  pub transfers : (decls : List MapDecl) (k : Kinds) (i : Insn) (node : ℕ) (is_ref taken : Bool) → IsFixed k → IsFixed (transferred decls k i node is_ref taken)
