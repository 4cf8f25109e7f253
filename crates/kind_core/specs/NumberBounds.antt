-- Bounds of numbers that are not known.
use Rattle.std.specs.Prelude.{ℕ, ◌+◌, ◌-◌, ◌*◌, ◌/◌, ◌%◌, ◌^◌, nat_lt, min, ◌&&◌, Bool, if◌then◌else◌}
use Rattle.xdp_machine.specs.bpf_isa.declared.operation.Src.{Src}
use Rattle.xdp_machine.specs.bpf_isa.declared.operation.Src.TheVariants.{K}
use Rattle.xdp_machine.specs.bpf_isa.declared.operation.Width.{Width}
use Rattle.xdp_machine.specs.bpf_isa.declared.operation.Width.TheVariants.{Bits32}
use Rattle.xdp_machine.specs.bpf_isa.declared.operation.AluCode.{AluCode}
use Rattle.xdp_machine.specs.bpf_isa.declared.operation.AluCode.TheVariants.{Add, Mul, And, Lsh, Rsh}
use Rattle.xdp_machine.specs.Arithmetic.{low}
use Rattle.kind_core.specs.declared.number.Number.{Number}
use Rattle.kind_core.specs.declared.number.Number.TheVariants.{Known, Between}

-- the least and the greatest number that it may be
abbrev pub lower : Number → ℕ
lower (Known a) = a
lower (Between lo hi) = lo

abbrev pub upper : Number → ℕ
upper (Known a) = a
upper (Between lo hi) = hi

-- a number of which the bounds alone are known
abbrev pub unknown : Number → Number
unknown n = Between (lower n) (upper n)

-- any number of so many bits
abbrev pub any_number : ℕ → Number
any_number bits = Between 0 (2 ^ bits - 1)

-- whether both bounds have so many bits
abbrev pub has_bits : ℕ → Number → Bool
has_bits bits n = nat_lt (lower n) (2 ^ bits) && nat_lt (upper n) (2 ^ bits)

abbrev pub in_bits : ℕ → Number → Number
in_bits bits n = if has_bits bits n then n else any_number bits

-- both bounds changed by an operation that keeps the order: bounds and results of so many bits
abbrev pub on_bounds : ℕ → (ℕ → ℕ) → Number → Number
on_bounds bits f n = if has_bits bits n then in_bits bits (Between (f (lower n)) (f (upper n))) else any_number bits

-- ADD
abbrev pub sum_bounds : ℕ → Number → Number → Number
sum_bounds bits a b = if has_bits bits a && has_bits bits b then in_bits bits (Between (lower a + lower b) (upper a + upper b)) else any_number bits

-- MUL by a known number
abbrev pub product_bounds : ℕ → Number → ℕ → Number
product_bounds bits n c = if nat_lt c (2 ^ bits) then on_bounds bits (λ m. m * c) n else any_number bits

-- AND with a known number
abbrev pub masked_bounds : ℕ → Number → ℕ → Number
masked_bounds bits n c = Between 0 (min (upper n) (low bits c))

-- in class ALU an immediate number counts as its 32 bits
abbrev pub counted : Width → Src → Number → Number
counted Bits32 K (Known c) = Known (low 32 c)
counted w s n = n

-- the bounds of an operation on numbers of so many bits; a shift masks its count
abbrev pub bounds : AluCode → ℕ → Number → Number → Number
bounds Add bits a b = sum_bounds bits a b
bounds Mul bits a (Known c) = product_bounds bits a c
bounds Mul bits (Known c) b = product_bounds bits b c
bounds And bits a (Known c) = masked_bounds bits a c
bounds And bits (Known c) b = masked_bounds bits b c
bounds Lsh bits a (Known c) = on_bounds bits (λ m. m * 2 ^ (c % bits)) a
bounds Rsh bits a (Known c) = on_bounds bits (λ m. m / 2 ^ (c % bits)) a
bounds c bits a b = any_number bits
