-- What is asked of every instruction: that it is in the profile, and that the registers that it reads are readable.
use Rattle.std.specs.Prelude.{ℤ, ◌==◌, Bool, true, false, not, ◌&&◌, ◌||◌, if◌then◌else◌, Option, Some, None, Err}
use Rattle.std.specs.Int.{w64, cast_unsigned}
use Rattle.xdp_machine.specs.bpf_isa.declared.operation.Src.TheVariants.{X}
use Rattle.xdp_machine.specs.bpf_isa.declared.operation.AluCode.TheVariants.{Mov}
use Rattle.xdp_machine.specs.bpf_isa.declared.operation.Op.{Op}
use Rattle.xdp_machine.specs.bpf_isa.declared.operation.Op.TheVariants.{Alu, Neg, End, Swap, Jump, Call, Exit, LoadImm, Load, LoadSigned, Abs, Ind, StoreImm, Store, Atomic}
use Rattle.xdp_machine.specs.bpf_isa.declared.instruction.Insn.{Insn}
use Rattle.xdp_machine.specs.bpf_isa.declared.helper.Helper.{Helper}
use Rattle.xdp_machine.specs.bpf_isa.Helpers.{helper_of}
use Rattle.xdp_machine.specs.Atomics.{fetches}
use Rattle.kind_core.specs.declared.kind.Kinds.{Kinds}
use Rattle.xdp_state.specs.declared.refusal.Why.TheVariants as why
use Rattle.kind_core.specs.Kinds.{register}
use Rattle.kind_core.specs.Access.{compares}
use Rattle.kind_core.specs.Calls.{arguments_read}
use Rattle.kind_core.specs.Tests.{◌>>=◌, Test, passed, read_if}

-- whether an instruction writes the destination, or with FETCH the source
abbrev pub writes_destination : Op → Bool
writes_destination (Alu w c s) = true
writes_destination (Neg w) = true
writes_destination (End s) = true
writes_destination Swap = true
writes_destination LoadImm = true
writes_destination (Load size) = true
writes_destination (LoadSigned size) = true
writes_destination op = false

abbrev pub writes_source : Insn → Op → Bool
writes_source i (Atomic size) = fetches (cast_unsigned w64 i.imm) && not (compares i)
writes_source i op = false

-- R10 is not written
abbrev pub writes_stack_end : Insn → Bool
writes_stack_end i = (writes_destination i.op && (i.dst == 10)) || (writes_source i i.op && (i.src == 10))

abbrev pub known_helper : ℤ → Option Helper → Test
known_helper id None = Err (why.Helper id)
known_helper id (Some h) = passed

abbrev pub if_plain_source : Insn → Test → Test
if_plain_source i t = if i.src == 0 then t else Err why.Instruction

-- The legacy access to packets, functions that are no helpers, and 64-bit numbers that are no plain ones are outside the profile.
abbrev pub in_profile : Insn → Op → Test
in_profile i (Abs size) = Err why.Instruction
in_profile i (Ind size) = Err why.Instruction
in_profile i Call = if_plain_source i (known_helper i.imm (helper_of i.imm))
in_profile i LoadImm = if_plain_source i passed
in_profile i op = passed

abbrev pub keeps_stack_end : Insn → Test
keeps_stack_end i = if writes_stack_end i then Err why.Instruction else passed

-- the registers that are read: MOV does not read its destination
abbrev pub reads_destination : Op → Bool
reads_destination (Alu w Mov s) = false
reads_destination (Alu w c s) = true
reads_destination (Neg w) = true
reads_destination (End s) = true
reads_destination Swap = true
reads_destination (Jump w c s) = true
reads_destination (StoreImm size) = true
reads_destination (Store size) = true
reads_destination (Atomic size) = true
reads_destination op = false

abbrev pub reads_source : Op → Bool
reads_source (Alu w c X) = true
reads_source (Jump w c X) = true
reads_source (Load size) = true
reads_source (LoadSigned size) = true
reads_source (Store size) = true
reads_source (Atomic size) = true
reads_source op = false

abbrev pub others_read : Insn → Kinds → Op → Test
others_read i k Call = arguments_read k (helper_of i.imm)
others_read i k Exit = read_if true (register k 0)
others_read i k (Atomic size) = read_if (compares i) (register k 0)
others_read i k op = passed

-- the destination, the source, and then the others ascending
abbrev pub registers_read : Insn → Kinds → Test
registers_read i k =
    read_if (reads_destination i.op) (register k i.dst) >>= λ _.
    read_if (reads_source i.op) (register k i.src) >>= λ _.
    others_read i k i.op

abbrev pub profiled : Insn → Kinds → Test
profiled i k = in_profile i i.op >>= λ _. keeps_stack_end i >>= λ _. registers_read i k
