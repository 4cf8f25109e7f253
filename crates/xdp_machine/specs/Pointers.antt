-- Arithmetic and conditions on values, pointers among them.
use Rattle.std.specs.Prelude.{ℕ, zero, ℤ, pos, negsuc, ◌-◌, ◌^◌, ◌+ℤ◌, ◌-ℤ◌, neg_ℤ, int_lt, int_le, Bool, true, false, ◌&&◌, if◌then◌else◌, Option, Some, None, unsigned_abs}
use Rattle.std.specs.Int.{w64, cast_unsigned}
use Rattle.std.specs.Ordering.{int_eq}
use Rattle.bpf_isa.specs.declared.operation.Width.{Width}
use Rattle.bpf_isa.specs.declared.operation.Width.TheVariants.{Bits64}
use Rattle.bpf_isa.specs.declared.operation.AluCode.{AluCode}
use Rattle.bpf_isa.specs.declared.operation.AluCode.TheVariants.{Add, Sub, Mov}
use Rattle.bpf_isa.specs.declared.operation.JumpCode.{JumpCode}
use Rattle.bpf_isa.specs.declared.operation.JumpCode.TheVariants.{Jeq, Jgt, Jge, Jne, Jlt, Jle}
use Rattle.bpf_isa.specs.bits_core.Bits.{signed_of}
use Rattle.xdp_machine.specs.Values.{Value, Number, Packet, Stack, Entry, held, number_in, ◌>>=◌}
use Rattle.xdp_machine.specs.Arithmetic.{bits_in, low, arithmetic, extended, holds}

-- a pointer at an offset of 64 bits
abbrev pub at_offset : (ℤ → Value) → ℤ → Option Value
at_offset point z = if int_le (negsuc (2 ^ 63 - 1)) z && int_lt z (pos (2 ^ 63)) then Some (point z) else None

-- a pointer moved: into the frame, the stack or an entry
abbrev pub moved : Value → ℤ → Option Value
moved (Packet o) z = at_offset Packet (o +ℤ z)
moved (Stack o) z = at_offset Stack (o +ℤ z)
moved (Entry q key o) z = at_offset (Entry q key) (o +ℤ z)
moved v z = None

-- ADD of 64 bits: a pointer is moved by a number with its sign, on either side
abbrev pub sum : Value → Value → Option Value
sum (Number a) (Number b) = Some (Number (arithmetic Add false 64 a b))
sum (Number a) v = moved v (signed_of 64 a)
sum v (Number b) = moved v (signed_of 64 b)
sum v w = None

-- SUB of 64 bits: a pointer is moved back, and two into the frame have a distance
abbrev pub difference : Value → Value → Option Value
difference (Number a) (Number b) = Some (Number (arithmetic Sub false 64 a b))
difference (Packet a) (Packet b) = Some (Number (cast_unsigned w64 (a -ℤ b)))
difference v (Number b) = moved v (neg_ℤ (signed_of 64 b))
difference v w = None

-- MOV: of 64 bits and without a count it copies any value
abbrev pub copied : Width → ℕ → Value → Option Value
copied Bits64 zero v = held v
copied w count v = number_in v >>= λ n. Some (Number (extended (bits_in w) count n))

-- the other operations, which are on numbers
abbrev pub computed : Width → AluCode → Bool → Value → Value → Option Value
computed w c signed a b = number_in a >>= λ x. number_in b >>= λ y. Some (Number (arithmetic c signed (bits_in w) (low (bits_in w) x) (low (bits_in w) y)))

-- an arithmetic instruction with this offset
abbrev pub combined : Width → AluCode → ℤ → Value → Value → Option Value
combined w Mov offset a b = copied w (unsigned_abs offset) b
combined Bits64 Add offset a b = sum a b
combined Bits64 Sub offset a b = difference a b
combined w c offset a b = computed w c (int_eq offset (pos 1)) a b

-- places in the frame are compared by their order
abbrev pub in_order : JumpCode → ℤ → ℤ → Option Bool
in_order Jgt a b = Some (int_lt b a)
in_order Jge a b = Some (int_le b a)
in_order Jlt a b = Some (int_lt a b)
in_order Jle a b = Some (int_le a b)
in_order c a b = None

-- an entry is not the number 0
abbrev pub against_null : JumpCode → ℕ → Option Bool
against_null Jeq zero = Some false
against_null Jne zero = Some true
against_null c n = None

-- the condition of a jump, where it has a meaning: pointers are compared by 64 bits alone
abbrev pub compared : Width → JumpCode → Value → Value → Option Bool
compared w c (Number a) (Number b) = Some (holds c (bits_in w) (low (bits_in w) a) (low (bits_in w) b))
compared Bits64 c (Packet a) (Packet b) = in_order c a b
compared Bits64 c (Entry q key o) (Number n) = against_null c n
compared Bits64 c (Number n) (Entry q key o) = against_null c n
compared w c a b = None
