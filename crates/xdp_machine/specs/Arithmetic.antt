-- The operations on numbers of 64 and 32 bits: RFC 9669, sections 4.1 (arithmetic), 4.2 (byte swaps) and 4.3 (jumps).
use Rattle.std.specs.Prelude.{ℕ, zero, suc, ◌+◌, ◌-◌, ◌*◌, ◌/◌, ◌%◌, ◌^◌, ◌==◌, nat_lt, nat_le, int_lt, int_le, Bool, not, if◌then◌else◌, bit_and, bit_or, bit_xor}
use Rattle.bpf_isa.specs.declared.operation.Src.{Src}
use Rattle.bpf_isa.specs.declared.operation.Src.TheVariants.{K, X}
use Rattle.bpf_isa.specs.declared.operation.Width.{Width}
use Rattle.bpf_isa.specs.declared.operation.Width.TheVariants.{Bits32, Bits64}
use Rattle.bpf_isa.specs.declared.operation.AluCode.{AluCode}
use Rattle.bpf_isa.specs.declared.operation.AluCode.TheVariants.{Add, Sub, Mul, Div, Or, And, Lsh, Rsh, Mod, Xor, Mov, Arsh}
use Rattle.bpf_isa.specs.declared.operation.JumpCode.{JumpCode}
use Rattle.bpf_isa.specs.declared.operation.JumpCode.TheVariants.{Jeq, Jgt, Jge, Jset, Jne, Jsgt, Jsge, Jlt, Jle, Jslt, Jsle}
use Rattle.bpf_isa.specs.bits_core.Bits.{signed_of, sext_of, swap_of, div_u_of, div_s_of, mod_u_of, mod_s_of, arsh_of}

abbrev pub bits_in : Width → ℕ
bits_in Bits32 = 32
bits_in Bits64 = 64

-- the low w bits
abbrev pub low : ℕ → ℕ → ℕ
low w n = n % 2 ^ w

-- an operation on two numbers of w bits; `signed` is asked of division alone
abbrev pub arithmetic : AluCode → Bool → ℕ → ℕ → ℕ → ℕ
arithmetic Add signed w a b = low w (a + b)
arithmetic Sub signed w a b = low w (a + (2 ^ w - b))
arithmetic Mul signed w a b = low w (a * b)
arithmetic Div signed w a b = if signed then div_s_of a b w else div_u_of a b
arithmetic Mod signed w a b = if signed then mod_s_of a b w else mod_u_of a b
arithmetic Or signed w a b = bit_or a b
arithmetic And signed w a b = bit_and a b
arithmetic Xor signed w a b = bit_xor a b
-- a shift masks its count
arithmetic Lsh signed w a b = low w (a * 2 ^ (b % w))
arithmetic Rsh signed w a b = a / 2 ^ (b % w)
arithmetic Arsh signed w a b = arsh_of a (b % w) w
arithmetic Mov signed w a b = b

abbrev pub negated : ℕ → ℕ → ℕ
negated w n = low w (2 ^ w - low w n)

-- what MOV makes of a number: with a count, the sign of so many bits is extended
abbrev pub extended : ℕ → ℕ → ℕ → ℕ
extended w zero n = low w n
extended w (suc k) n = low w (sext_of (low (suc k) n) (suc k))

-- END: to little-endian the low bits stay as they are, to big-endian their bytes are reversed
abbrev pub ordered : Src → ℕ → ℕ → ℕ
ordered K w n = low w n
ordered X w n = swap_of (low w n) w

-- the condition of a jump on two numbers of w bits
abbrev pub holds : JumpCode → ℕ → ℕ → ℕ → Bool
holds Jeq w a b = a == b
holds Jne w a b = not (a == b)
holds Jset w a b = not (bit_and a b == 0)
holds Jgt w a b = nat_lt b a
holds Jge w a b = nat_le b a
holds Jlt w a b = nat_lt a b
holds Jle w a b = nat_le a b
holds Jsgt w a b = int_lt (signed_of w b) (signed_of w a)
holds Jsge w a b = int_le (signed_of w b) (signed_of w a)
holds Jslt w a b = int_lt (signed_of w a) (signed_of w b)
holds Jsle w a b = int_le (signed_of w a) (signed_of w b)
