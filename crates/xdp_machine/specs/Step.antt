-- One instruction of the sequential machine: RFC 9669, sections 4 and 5.
use Rattle.std.specs.Prelude.{List, ℕ, ℤ, pos, negsuc, ◌+◌, ◌+ℤ◌, ◌==◌, Bool, if◌then◌else◌, Option, Some, None, unsigned_abs}
use Rattle.std.specs.List.{list_any}
use Rattle.std.specs.Int.{w64, cast_unsigned}
use Rattle.bpf_isa.specs.declared.operation.Src.{Src}
use Rattle.bpf_isa.specs.declared.operation.Src.TheVariants.{K, X}
use Rattle.bpf_isa.specs.declared.operation.Width.TheVariants.{Bits32, Bits64}
use Rattle.bpf_isa.specs.declared.operation.Op.{Op}
use Rattle.bpf_isa.specs.declared.operation.Op.TheVariants.{Alu, Neg, End, Swap, Ja, Jump, Call, Exit, LoadImm, Load, LoadSigned, Abs, Ind, StoreImm, Store, Atomic}
use Rattle.bpf_isa.specs.declared.instruction.Insn.{Insn}
use Rattle.bpf_isa.specs.Helpers.{helper_of}
use Rattle.bpf_isa.specs.Spelling.{units_of}
use Rattle.bpf_isa.specs.Text.{insn_at}
use Rattle.xdp_machine.specs.Values.{Value, Number, Map, number_in, ◌>>=◌}
use Rattle.xdp_machine.specs.State.{Code, Machine, register, put, with_registers, begins}
use Rattle.xdp_machine.specs.Arithmetic.{bits_in, low, negated, ordered}
use Rattle.xdp_machine.specs.Pointers.{combined, compared}
use Rattle.xdp_machine.specs.Memory.{loaded_plain, loaded_signed, stored}
use Rattle.xdp_machine.specs.Atomics.{atomic}
use Rattle.xdp_machine.specs.Helpers.{called}

-- a step leads on, ends the run with a verdict, or has no case
pub data Outcome : Type 0 where
  Goes : Machine → Outcome
  Ends : ℕ → Outcome
  NoCase : Outcome

-- the machine goes on at a place where an instruction begins
abbrev pub goes_to : List Insn → ℤ → Machine → Outcome
goes_to insns (pos place) m = if begins insns place then Goes (record m { place = place }) else NoCase
goes_to insns (negsuc place) m = NoCase

-- after an instruction of so many units that does not jump
abbrev pub goes_on : List Insn → ℕ → ℕ → Option Machine → Outcome
goes_on insns place units (Some m) = goes_to insns (pos (place + units)) m
goes_on insns place units None = NoCase

-- a jump over a distance, where its condition has a meaning
abbrev pub jumps : List Insn → ℤ → Machine → Option Bool → Outcome
jumps insns distance m (Some taken) = goes_to insns (if taken then pos (m.place + 1) +ℤ distance else pos (m.place + 1)) m
jumps insns distance m None = NoCase

-- the verdict is the low 32 bits of R0
abbrev pub exits : Option ℕ → Outcome
exits (Some n) = Ends (low 32 n)
exits None = NoCase

-- the second operand: the immediate number in 64 bits, or the source
abbrev pub operand : List Value → Insn → Src → Value
operand registers i K = Number (cast_unsigned w64 i.imm)
operand registers i X = register registers i.src

-- a value goes into the destination
abbrev pub assigned : List Value → Insn → Option Value → Option (List Value)
assigned registers i v = v >>= put registers i.dst

-- the number in the destination, changed
abbrev pub renumbered : List Value → Insn → (ℕ → ℕ) → Option (List Value)
renumbered registers i f = number_in (register registers i.dst) >>= λ n. put registers i.dst (Number (f n))

-- a number of 64 bits, or a map by its number where the place is that of a reference
abbrev pub constant : List ℕ → ℕ → Insn → Option Value
constant refs place i =
    if i.src == 0
    then Some (if list_any (λ r. r == place) refs then Map (low 32 (cast_unsigned w64 i.imm)) else Number (cast_unsigned w64 i.imm))
    else None

-- the functions of source 0 are the helpers, by the immediate number
abbrev pub calls : Machine → Insn → Option Machine
calls m i = if i.src == 0 then called (helper_of i.imm) m else None

-- the registers after arithmetic
abbrev pub alu : List Value → Insn → Op → Option (List Value)
alu registers i (Alu w c s) = assigned registers i (combined w c i.offset (register registers i.dst) (operand registers i s))
alu registers i (Neg w) = renumbered registers i (negated (bits_in w))
alu registers i (End s) = renumbered registers i (ordered s (unsigned_abs i.imm))
alu registers i Swap = renumbered registers i (ordered X (unsigned_abs i.imm))
alu registers i op = None

-- what an instruction that does not jump makes of the machine
abbrev pub effect : List ℕ → Machine → Insn → Op → Option Machine
effect refs m i LoadImm = with_registers m (assigned m.registers i (constant refs m.place i))
effect refs m i (Load size) = with_registers m (assigned m.registers i (loaded_plain m (register m.registers i.src) i.offset size))
effect refs m i (LoadSigned size) = with_registers m (assigned m.registers i (loaded_signed m (register m.registers i.src) i.offset size))
effect refs m i (StoreImm size) = stored m (register m.registers i.dst) i.offset size (Number (cast_unsigned w64 i.imm))
effect refs m i (Store size) = stored m (register m.registers i.dst) i.offset size (register m.registers i.src)
effect refs m i (Atomic size) = atomic m i size
effect refs m i Call = calls m i
effect refs m i (Abs size) = None
effect refs m i (Ind size) = None
effect refs m i op = with_registers m (alu m.registers i op)

abbrev pub outcome : Code → Machine → Insn → Op → Outcome
outcome code m i (Ja Bits64) = goes_to code.insns (pos (m.place + 1) +ℤ i.offset) m
outcome code m i (Ja Bits32) = goes_to code.insns (pos (m.place + 1) +ℤ i.imm) m
outcome code m i (Jump w c s) = jumps code.insns i.offset m (compared w c (register m.registers i.dst) (operand m.registers i s))
outcome code m i Exit = exits (number_in (register m.registers 0))
outcome code m i op = goes_on code.insns m.place (units_of op) (effect code.refs m i op)

abbrev pub outcome_at : Code → Machine → Option Insn → Outcome
outcome_at code m None = NoCase
outcome_at code m (Some i) = outcome code m i i.op

abbrev pub step : Code → Machine → Outcome
step code m = outcome_at code m (insn_at code.insns m.place)
