-- What instructions that write their destination put there.
use Rattle.std.specs.Prelude.{ℕ, Bool, Option, Some, None, Result, Ok, List, unsigned_abs}
use Rattle.cell_core.specs.bpf_isa.declared.operation.Src.TheVariants.{X}
use Rattle.cell_core.specs.bpf_isa.declared.operation.Op.{Op}
use Rattle.cell_core.specs.bpf_isa.declared.operation.Op.TheVariants.{Alu, Neg, End, Swap, LoadImm, Load, LoadSigned}
use Rattle.cell_core.specs.bpf_isa.declared.instruction.Insn.{Insn}
use Rattle.cell_core.specs.xdp_maps.declared.decl.MapDecl.{MapDecl}
use Rattle.cell_core.specs.xdp_machine.Values.{Value, Number, number_in, ◌>>=◌}
use Rattle.cell_core.specs.xdp_machine.State.{Machine, register}
use Rattle.cell_core.specs.xdp_machine.Arithmetic.{bits_in, negated, ordered}
use Rattle.cell_core.specs.xdp_machine.Pointers.{combined}
use Rattle.cell_core.specs.xdp_machine.Memory.{loaded_plain, loaded_signed}
use Rattle.cell_core.specs.xdp_machine.Step as machine
use Rattle.kind_core.specs.declared.kind.Kind.{Kind}
use Rattle.kind_core.specs.declared.kind.Kinds.{Kinds}
use Rattle.xdp_state.specs.declared.refusal.Why.{Why}
use Rattle.kind_core.specs.Kinds as kinds
use Rattle.kind_core.specs.Access as kind
use Rattle.kind_core.specs.Effects as effects
use Rattle.kind_core.specs.Edges as edges

-- a number, changed
abbrev pub numbered : (ℕ → ℕ) → Value → Option Value
numbered f x = number_in x >>= λ n. Some (Number (f n))

-- the number in the destination, changed
abbrev pub given_number : Machine → Insn → (ℕ → ℕ) → Option Value
given_number m i f = numbered f (register m.registers i.dst)

-- the value that goes into the destination
abbrev pub given : List ℕ → Machine → Insn → Op → Option Value
given refs m i (Alu w c s) = combined w c i.offset (register m.registers i.dst) (machine.operand m.registers i s)
given refs m i (Neg w) = given_number m i (negated (bits_in w))
given refs m i (End s) = given_number m i (ordered s (unsigned_abs i.imm))
given refs m i Swap = given_number m i (ordered X (unsigned_abs i.imm))
given refs m i LoadImm = machine.constant refs m.place i
given refs m i (Load size) = loaded_plain m (register m.registers i.src) i.offset size
given refs m i (LoadSigned size) = loaded_signed m (register m.registers i.src) i.offset size
given refs m i op = None

-- and its kind, where the instruction is allowed
abbrev pub given_kind : Bool → List MapDecl → Kinds → Insn → Op → Result Kind Why
given_kind is_ref decls k i LoadImm = Ok (edges.constant is_ref i.imm)
given_kind is_ref decls k i (Load size) = kind.loaded_plain decls k (kinds.register k i.src) i.offset size
given_kind is_ref decls k i (LoadSigned size) = kind.loaded_signed decls k (kinds.register k i.src) i.offset size
given_kind is_ref decls k i op = effects.alu decls k i op
