-- The instruction table: which 8 or 16 bytes are which instruction (RFC 9669, section 3).
use Rattle.std.specs.Prelude.{ℕ, ℤ, pos, ◌≡◌, ◌+◌, ◌-◌, ◌*◌, ◌/◌, ◌%◌, ◌^◌, ◌≤◌, List, [], ◌∷◌, ◌++◌, take, drop}
use Rattle.std.specs.Int.{w16, w32, w64, to_le_bytes, cast_unsigned}
use Rattle.std.specs.Int.RustNames.{FitsSigned}
use Rattle.bpf_isa.specs.declared.operation.Op.{Op}
use Rattle.bpf_isa.specs.declared.operation.Op.TheVariants.{LoadImm}
use Rattle.bpf_isa.specs.declared.instruction.Insn.{Insn}
use Rattle.bpf_isa.specs.Opcode.{code_of}
use Rattle.bpf_isa.specs.Rules.{Allows, rules_of, IsSized}

-- a unit: an opcode, two registers, an offset of 16 bits and a number of 32 bits, lowest byte first
abbrev pub unit : ℕ → ℕ → ℕ → ℤ → ℕ → List ℕ
unit code dst src offset imm = code ∷ (dst + 16 * src) ∷ to_le_bytes w16 (cast_unsigned w16 offset) ++ to_le_bytes w32 imm

-- how many units an operation has
abbrev pub units_of : Op → ℕ
units_of LoadImm = 2
units_of op = 1

-- the high half of a number of 64 bits has a unit of its own, whose other fields are zero
abbrev pub second_unit : Op → ℤ → List ℕ
second_unit LoadImm imm = unit 0 0 0 (pos 0) (cast_unsigned w64 imm / 2 ^ 32)
second_unit op imm = []

-- the bytes of an operation with these fields
abbrev pub spelled : Op → ℕ → ℕ → ℤ → ℤ → List ℕ
spelled op dst src offset imm = unit (code_of op) dst src offset (cast_unsigned w64 imm % 2 ^ 32) ++ second_unit op imm

abbrev pub spelling : Insn → List ℕ
spelling i = spelled i.op i.dst i.src i.offset i.imm

-- the range of the immediate number
abbrev pub FitsOp : Op → ℤ → Type 0
FitsOp LoadImm imm = FitsSigned w64 imm
FitsOp op imm = FitsSigned w32 imm

-- i is an instruction of the table: its fields hold what its operation allows
pub record IsInsn (i : Insn) : Type 0 where
  pub size : IsSized i.op
  pub dst_register : i.dst ≤ 10
  pub src_register : i.src ≤ 10
  pub dst : Allows (rules_of i.op).dst (pos i.dst)
  pub src : Allows (rules_of i.op).src (pos i.src)
  pub offset : Allows (rules_of i.op).offset i.offset
  pub imm : Allows (rules_of i.op).imm i.imm
  pub offset_range : FitsSigned w16 i.offset
  pub imm_range : FitsOp i.op i.imm

-- a text begins with the instruction i
pub record Begins (text : List ℕ) (i : Insn) : Type 0 where
  pub legal : IsInsn i
  pub bytes : take (8 * units_of i.op) text ≡ spelling i

-- the instruction i stands at unit `at` of a text
abbrev pub StandsAt : List ℕ → ℕ → Insn → Type 0
StandsAt code at i = Begins (drop (8 * at) code) i

-- the number imm of an operation has these low 32 bits, and what is left of it stands after the first unit
pub record HasImm (op : Op) (low : ℕ) (rest : List ℕ) (imm : ℤ) : Type 0 where
  pub range : FitsOp op imm
  pub low_half : low ≡ cast_unsigned w64 imm % 2 ^ 32
  pub high_half : take (8 * (units_of op - 1)) rest ≡ second_unit op imm
