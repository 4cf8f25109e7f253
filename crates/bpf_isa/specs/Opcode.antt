-- The first byte of an instruction: RFC 9669, sections 3.3 (classes), 4 (arithmetic and jumps) and 5 (loads and stores).
use Rattle.std.specs.Prelude.{ℕ, ◌+◌, ◌*◌}
use Rattle.bpf_isa.specs.declared.operation.Src.{Src}
use Rattle.bpf_isa.specs.declared.operation.Src.TheVariants.{K, X}
use Rattle.bpf_isa.specs.declared.operation.Size.{Size}
use Rattle.bpf_isa.specs.declared.operation.Size.TheVariants.{B, H, W, Dw}
use Rattle.bpf_isa.specs.declared.operation.Width.{Width}
use Rattle.bpf_isa.specs.declared.operation.Width.TheVariants.{Bits32, Bits64}
use Rattle.bpf_isa.specs.declared.operation.AluCode.{AluCode}
use Rattle.bpf_isa.specs.declared.operation.AluCode.TheVariants.{Add, Sub, Mul, Div, Or, And, Lsh, Rsh, Mod, Xor, Mov, Arsh}
use Rattle.bpf_isa.specs.declared.operation.JumpCode.{JumpCode}
use Rattle.bpf_isa.specs.declared.operation.JumpCode.TheVariants.{Jeq, Jgt, Jge, Jset, Jne, Jsgt, Jsge, Jlt, Jle, Jslt, Jsle}
use Rattle.bpf_isa.specs.declared.operation.Op.{Op}
use Rattle.bpf_isa.specs.declared.operation.Op.TheVariants.{Alu, Neg, End, Swap, Ja, Jump, Call, Exit, LoadImm, Abs, Ind, Load, LoadSigned, StoreImm, Store, Atomic}

-- the code in the high four bits of arithmetic
abbrev pub alu_number : AluCode → ℕ
alu_number Add = 0x0
alu_number Sub = 0x1
alu_number Mul = 0x2
alu_number Div = 0x3
alu_number Or = 0x4
alu_number And = 0x5
alu_number Lsh = 0x6
alu_number Rsh = 0x7
alu_number Mod = 0x9
alu_number Xor = 0xa
alu_number Mov = 0xb
alu_number Arsh = 0xc

-- the code in the high four bits of conditional jumps
abbrev pub jump_number : JumpCode → ℕ
jump_number Jeq = 0x1
jump_number Jgt = 0x2
jump_number Jge = 0x3
jump_number Jset = 0x4
jump_number Jne = 0x5
jump_number Jsgt = 0x6
jump_number Jsge = 0x7
jump_number Jlt = 0xa
jump_number Jle = 0xb
jump_number Jslt = 0xc
jump_number Jsle = 0xd

-- bits 3 and 4 of loads and stores
abbrev pub size_number : Size → ℕ
size_number W = 0
size_number H = 1
size_number B = 2
size_number Dw = 3

-- bit 3 of arithmetic and jumps
abbrev pub src_number : Src → ℕ
src_number K = 0
src_number X = 1

-- ALU and ALU64
abbrev pub alu_class : Width → ℕ
alu_class Bits32 = 4
alu_class Bits64 = 7

-- JMP32 and JMP
abbrev pub jump_class : Width → ℕ
jump_class Bits32 = 6
jump_class Bits64 = 5

-- arithmetic and jumps: a class, bit 3 and a code
abbrev pub compute : ℕ → ℕ → ℕ → ℕ
compute class bit code = class + 8 * bit + 16 * code

-- loads and stores: a class, a size and a mode
abbrev pub access : ℕ → Size → ℕ → ℕ
access class size mode = class + 8 * size_number size + 32 * mode

abbrev pub code_of : Op → ℕ
code_of (Alu w c s) = compute (alu_class w) (src_number s) (alu_number c)
code_of (Neg w) = compute (alu_class w) 0 0x8
code_of (End s) = compute 4 (src_number s) 0xd
code_of Swap = compute 7 0 0xd
code_of (Ja w) = compute (jump_class w) 0 0x0
code_of (Jump w c s) = compute (jump_class w) (src_number s) (jump_number c)
code_of Call = compute 5 0 0x8
code_of Exit = compute 5 0 0x9
code_of LoadImm = access 0 Dw 0
code_of (Abs size) = access 0 size 1
code_of (Ind size) = access 0 size 2
code_of (Load size) = access 1 size 3
code_of (LoadSigned size) = access 1 size 4
code_of (StoreImm size) = access 2 size 3
code_of (Store size) = access 3 size 3
code_of (Atomic size) = access 3 size 6
