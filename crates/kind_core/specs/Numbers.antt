-- What is known of numbers. A number that is computed is known where all are that it is computed from; of others bounds are known.
use Rattle.std.specs.Prelude.{ℕ, zero, suc, ◌*◌, ◌==◌, min, max, Bool, false, if◌then◌else◌, Option, Some, None}
use Rattle.byteorder.specs.Endian.{little_number, little_bytes}
use Rattle.xdp_machine.specs.bpf_isa.declared.operation.Src.{Src}
use Rattle.xdp_machine.specs.bpf_isa.declared.operation.Size.{Size}
use Rattle.xdp_machine.specs.bpf_isa.declared.operation.Width.{Width}
use Rattle.xdp_machine.specs.bpf_isa.declared.operation.AluCode.{AluCode}
use Rattle.xdp_machine.specs.bpf_isa.declared.operation.AluCode.TheVariants.{Add, Sub}
use Rattle.xdp_machine.specs.bpf_isa.declared.operation.JumpCode.{JumpCode}
use Rattle.xdp_machine.specs.xdp_maps.Calls.{patched}
use Rattle.xdp_machine.specs.Arithmetic.{bits_in, low, arithmetic, negated, extended, ordered, holds}
use Rattle.xdp_machine.specs.Memory.{bytes_in, number_at}
use Rattle.kind_core.specs.declared.number.Number.{Number}
use Rattle.kind_core.specs.declared.number.Number.TheVariants.{Known, Between}
use Rattle.kind_core.specs.NumberBounds.{lower, upper, unknown, any_number, in_bits, sum_bounds, counted, bounds}

-- computed from one number, and from two: else any number of so many bits
abbrev pub from_one : ℕ → (ℕ → ℕ) → Number → Number
from_one bits f (Known a) = Known (f a)
from_one bits f (Between lo hi) = any_number bits

abbrev pub from_two : ℕ → (ℕ → ℕ → ℕ) → Number → Number → Number
from_two bits f (Known a) (Known b) = Known (f a b)
from_two bits f (Known a) (Between lo hi) = any_number bits
from_two bits f (Between lo hi) n = any_number bits

-- an operation on the low bits of two numbers, the second from this source
abbrev pub number_arithmetic : AluCode → Bool → Width → Src → Number → Number → Number
number_arithmetic c signed w s (Known a) (Known b) = Known (arithmetic c signed (bits_in w) (low (bits_in w) a) (low (bits_in w) b))
number_arithmetic c signed w s (Known a) (Between lo hi) = unknown (bounds c (bits_in w) (Known a) (counted w s (Between lo hi)))
number_arithmetic c signed w s (Between lo hi) n = unknown (bounds c (bits_in w) (Between lo hi) (counted w s n))

-- the sum and the difference of two numbers of 64 bits
abbrev pub number_sum : Number → Number → Number
number_sum (Known a) (Known b) = Known (arithmetic Add false 64 a b)
number_sum (Known a) (Between lo hi) = unknown (sum_bounds 64 (Known a) (Between lo hi))
number_sum (Between lo hi) n = unknown (sum_bounds 64 (Between lo hi) n)

abbrev pub number_difference : Number → Number → Number
number_difference = from_two 64 (arithmetic Sub false 64)

abbrev pub number_negated : Width → Number → Number
number_negated w = from_one (bits_in w) (negated (bits_in w))

-- MOV without a count keeps bounds of so many bits
abbrev pub moved_number : Width → ℕ → Number → Number
moved_number w zero n = in_bits (bits_in w) n
moved_number w (suc count) n = any_number (bits_in w)

abbrev pub number_extended : Width → ℕ → Number → Number
number_extended w count (Known a) = Known (extended (bits_in w) count a)
number_extended w count (Between lo hi) = unknown (moved_number w count (Between lo hi))

-- END is of class ALU, but makes 64 bits of 64
abbrev pub end_bits : ℕ → ℕ
end_bits bits = if bits == 64 then 64 else 32

-- the bytes of the low bits in an order, where any number of so many bits may come out
abbrev pub number_ordered : ℕ → Src → ℕ → Number → Number
number_ordered most order bits = from_one most (ordered order bits)

-- the condition of a jump, where it is known: bounds decide none
abbrev pub number_holds : JumpCode → Width → Number → Number → Option Bool
number_holds c w (Known a) (Known b) = Some (holds c (bits_in w) (low (bits_in w) a) (low (bits_in w) b))
number_holds c w (Known a) (Between lo hi) = None
number_holds c w (Between lo hi) n = None

-- what so many bytes can be
abbrev pub any_bytes : Size → Number
any_bytes size = any_number (8 * bytes_in size)

-- a part of a number of eight bytes, and such a number with a part stored over
abbrev pub number_part : Size → ℕ → Number → Number
number_part size at = from_one (8 * bytes_in size) (λ n. number_at size at (little_bytes 8 n))

abbrev pub number_patched : Size → ℕ → Number → Number → Number
number_patched size at = from_two 64 (λ old n. little_number 8 (patched (little_bytes 8 old) at (little_bytes (bytes_in size) n)))

-- Where two edges meet, two numbers that differ are a number between them.
abbrev pub join_number : Number → Number → Number
join_number (Known a) (Known b) = if a == b then Known a else Between (min a b) (max a b)
join_number (Known a) (Between lo hi) = Between (min a lo) (max a hi)
join_number (Between lo hi) n = Between (min lo (lower n)) (max hi (upper n))
