-- What an instruction does to kinds, or why the program is refused: the first test that fails.
use Rattle.std.specs.Prelude.{◌<◌, ◌≤◌, Option, Some, None, Result, Ok, Err, List, unsigned_abs}
use Rattle.std.specs.Int.{w64, cast_unsigned}
use Rattle.xdp_machine.specs.bpf_isa.declared.operation.Src.{Src}
use Rattle.xdp_machine.specs.bpf_isa.declared.operation.Src.TheVariants.{K, X}
use Rattle.xdp_machine.specs.bpf_isa.declared.operation.Width.{Width}
use Rattle.xdp_machine.specs.bpf_isa.declared.operation.Width.TheVariants.{Bits64}
use Rattle.xdp_machine.specs.bpf_isa.declared.operation.AluCode.{AluCode}
use Rattle.xdp_machine.specs.bpf_isa.declared.operation.AluCode.TheVariants.{Add}
use Rattle.xdp_machine.specs.bpf_isa.declared.operation.JumpCode.{JumpCode}
use Rattle.xdp_machine.specs.bpf_isa.declared.operation.Op.{Op}
use Rattle.xdp_machine.specs.bpf_isa.declared.operation.Op.TheVariants.{Alu, Neg, End, Swap, Ja, Jump, Call, Exit, LoadImm, Load, LoadSigned, StoreImm, Store, Atomic}
use Rattle.xdp_machine.specs.bpf_isa.declared.instruction.Insn.{Insn}
use Rattle.xdp_machine.specs.bpf_isa.Helpers.{helper_of}
use Rattle.xdp_machine.specs.xdp_maps.declared.decl.MapDecl.{MapDecl}
use Rattle.kind_core.specs.declared.number.Number.{Number}
use Rattle.kind_core.specs.declared.number.Number.TheVariants.{Known}
use Rattle.kind_core.specs.declared.kind.Kind.{Kind}
use Rattle.kind_core.specs.declared.kind.Kind.TheVariants.{Num}
use Rattle.kind_core.specs.declared.kind.Kinds.{Kinds}
use Rattle.kind_core.specs.declared.kind.Offsets.{Offsets}
use Rattle.kind_core.specs.declared.kind.Offsets.TheVariants.{Varying}
use Rattle.kind_core.specs.declared.base.Bounds.{Bounds}
use Rattle.kind_core.specs.declared.conditions.Condition.{Condition}
use Rattle.kind_core.specs.declared.effects.Effect.{Effect}
use Rattle.kind_core.specs.declared.effects.Effect.TheVariants.{Nothing, Register, NewBase, Constant, Slot, Compared}
use Rattle.xdp_state.specs.declared.refusal.Why.{Why}
use Rattle.xdp_state.specs.declared.refusal.Why.TheVariants as why
use Rattle.kind_core.specs.Numbers.{number_negated, number_ordered, end_bits}
use Rattle.kind_core.specs.Kinds.{register}
use Rattle.kind_core.specs.Tests.{◌>>=◌, Test, passed, number_in}
use Rattle.kind_core.specs.Bases.{base_sum}
use Rattle.kind_core.specs.Pointers.{combined}
use Rattle.kind_core.specs.Access.{loaded_plain, loaded_signed, stored, atomic}
use Rattle.kind_core.specs.Conditions.{condition_of}
use Rattle.kind_core.specs.Calls.{called}
use Rattle.kind_core.specs.Profile.{profiled}

-- the immediate number in 64 bits, and the second operand
abbrev pub immediate : Insn → Kind
immediate i = Num (Known (cast_unsigned w64 i.imm))

abbrev pub operand : Kinds → Insn → Src → Kind
operand k i K = immediate i
operand k i X = register k i.src

-- a kind goes into the destination
abbrev pub assigned : Insn → Result Kind Why → Result Effect Why
assigned i r = r >>= λ x. Ok (Register i.dst x)

-- the number in the destination, changed
abbrev pub renumbered : Kinds → Insn → (Number → Number) → Result Kind Why
renumbered k i f = number_in (register k i.dst) >>= λ n. Ok (Num (f n))

-- what arithmetic leaves in the destination
abbrev pub alu : List MapDecl → Kinds → Insn → Op → Result Kind Why
alu decls k i (Alu w c s) = combined decls w c i.offset s (register k i.dst) (operand k i s)
alu decls k i (Neg w) = renumbered k i (number_negated w)
alu decls k i (End s) = renumbered k i (number_ordered (end_bits (unsigned_abs i.imm)) s (unsigned_abs i.imm))
alu decls k i Swap = renumbered k i (number_ordered 64 X (unsigned_abs i.imm))
alu decls k i op = Err why.Instruction

-- the bounds of a new base, where offsets may vary and the sum leads to one
abbrev pub based : Offsets → Width → AluCode → Kind → Kind → Option Bounds
based Varying Bits64 Add a b = base_sum a b
based offsets w c a b = None

abbrev pub if_based : Insn → Option Bounds → Result Effect Why → Result Effect Why
if_based i (Some bounds) e = Ok (NewBase i.dst bounds)
if_based i None e = e

abbrev pub jump : Kinds → Insn → Width → JumpCode → Src → Result Condition Why
jump k i w c s = condition_of w c (register k i.dst) (operand k i s)

-- what is asked by the operation alone, after the tests of the profile and of the registers that are read
abbrev pub effect_as : List MapDecl → Kinds → Insn → Op → Result Effect Why
effect_as decls k i (Alu w c s) = if_based i (based k.offsets w c (register k i.dst) (operand k i s)) (assigned i (alu decls k i (Alu w c s)))
effect_as decls k i (Ja w) = Ok Nothing
effect_as decls k i (Jump w c s) = jump k i w c s >>= λ x. Ok (Compared x)
effect_as decls k i Call = called decls k i.imm (helper_of i.imm)
effect_as decls k i Exit = number_in (register k 0) >>= λ _. Ok Nothing
effect_as decls k i LoadImm = Ok (Constant i.dst i.imm)
effect_as decls k i (Load size) = assigned i (loaded_plain decls k (register k i.src) i.offset size)
effect_as decls k i (LoadSigned size) = assigned i (loaded_signed decls k (register k i.src) i.offset size)
effect_as decls k i (StoreImm size) = stored decls k (register k i.dst) i.offset size (immediate i)
effect_as decls k i (Store size) = stored decls k (register k i.dst) i.offset size (register k i.src)
effect_as decls k i (Atomic size) = atomic decls k i size
effect_as decls k i op = assigned i (alu decls k i op)

unfoldable pub effect_of : List MapDecl → Kinds → Insn → Result Effect Why
effect_of decls k i = profiled i k >>= λ _. effect_as decls k i i.op

-- the answer of the tests alone
abbrev pub verdict : Result Effect Why → Test
verdict (Ok e) = passed
verdict (Err w) = Err w

-- an effect names registers and slots that there are
abbrev pub IsInside : Effect → Type 0
IsInside (Register r x) = r ≤ 10
IsInside (NewBase r bounds) = r ≤ 10
IsInside (Constant r imm) = r ≤ 10
IsInside (Slot s x) = s < 64
IsInside e = Unit {0}
