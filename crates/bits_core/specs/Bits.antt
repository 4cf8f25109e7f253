-- Numbers as words of w bits: fields, signs, bytes, and division as RFC 9669 fixes it.
use Rattle.std.specs.Prelude.{ℕ, zero, suc, ◌+◌, ◌-◌, ◌*◌, ◌/◌, ◌%◌, ◌^◌, ℤ, pos, negsuc, nat_lt, if◌then◌else◌}
use Rattle.std.specs.Int.{int_div_euclid}
use Rattle.std.specs.Int.RustNames.{int_div, int_rem}

-- the greatest number of w bits
abbrev pub mask_of : ℕ → ℕ
mask_of w = 2 ^ w - 1

-- bits hi to lo of v, where bit 0 is the lowest
abbrev pub slice_of : ℕ → ℕ → ℕ → ℕ
slice_of v hi lo = v / 2 ^ lo % 2 ^ (hi - lo + 1)

-- hi above the w bits of lo
abbrev pub join_of : ℕ → ℕ → ℕ → ℕ
join_of hi lo w = hi * 2 ^ w + lo

-- the number that w bits stand for in two's complement
abbrev pub signed_of : ℕ → ℕ → ℤ
signed_of w v = if nat_lt v (2 ^ (w - 1)) then pos v else negsuc (2 ^ w - 1 - v)

-- the w bits of a number in two's complement: what is left of it modulo 2 ^ w
abbrev pub bits_of : ℕ → ℤ → ℕ
bits_of w (pos n) = n % 2 ^ w
bits_of w (negsuc n) = 2 ^ w - 1 - n % 2 ^ w

-- the same signed number in 64 bits
abbrev pub sext_of : ℕ → ℕ → ℕ
sext_of v w = bits_of 64 (signed_of w v)

-- the n lowest bytes of v, the lowest of them first
abbrev pub reversed_of : ℕ → ℕ → ℕ
reversed_of zero v = 0
reversed_of (suc n) v = v % 256 * 256 ^ n + reversed_of n (v / 256)

-- v of w bits with its bytes in the other order
abbrev pub swap_of : ℕ → ℕ → ℕ
swap_of v w = reversed_of (w / 8) v

-- division by 0 gives 0, and its remainder is the dividend
abbrev pub div_u_of : ℕ → ℕ → ℕ
div_u_of a zero = 0
div_u_of a (suc b) = a / suc b

abbrev pub mod_u_of : ℕ → ℕ → ℕ
mod_u_of a zero = a
mod_u_of a (suc b) = a % suc b

-- the same of signed numbers, where the quotient is rounded toward 0
abbrev pub quotient_of : ℤ → ℤ → ℤ
quotient_of x (pos zero) = pos 0
quotient_of x y = int_div x y

abbrev pub remainder_of : ℤ → ℤ → ℤ
remainder_of x (pos zero) = x
remainder_of x y = int_rem x y

-- the same of the signed numbers that w bits stand for
abbrev pub div_s_of : ℕ → ℕ → ℕ → ℕ
div_s_of a b w = bits_of w (quotient_of (signed_of w a) (signed_of w b))

abbrev pub mod_s_of : ℕ → ℕ → ℕ → ℕ
mod_s_of a b w = bits_of w (remainder_of (signed_of w a) (signed_of w b))

-- the signed number over 2 ^ n, rounded down
abbrev pub arsh_of : ℕ → ℕ → ℕ → ℕ
arsh_of v n w = bits_of w (int_div_euclid (signed_of w v) (pos (2 ^ n)))
