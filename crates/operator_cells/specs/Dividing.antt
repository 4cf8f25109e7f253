-- Division without a zero divisor.
use Rattle.std.specs.Prelude.{ℕ, Bool, true, false, if◌then◌else◌}
use Rattle.cell_core.specs.bits_core.Bits.{div_u_of, mod_u_of}
use Rattle.cell_core.specs.bpf_isa.declared.operation.AluCode.{AluCode}
use Rattle.cell_core.specs.bpf_isa.declared.operation.AluCode.TheVariants.{Div, Mod, Xor}
use Rattle.cell_core.specs.xdp_machine.Arithmetic.{low, arithmetic}
use Rattle.cell_core.specs.Cells.{on, bits_from}
use Rattle.cell_core.specs.declared.operator.Operator.{Operator}
use Rattle.cell_core.specs.declared.operator.Operator.TheVariants.{Quotient, Remainder}

-- a divisor, with 1 in place of 0
abbrev pub some : ℕ → ℕ
some n = if on n then n else 1

-- the quotient, or the remainder
abbrev pub divided : Bool → ℕ → ℕ → ℕ
divided true a b = mod_u_of a b
divided false a b = div_u_of a b

abbrev pub divider : Bool → Operator
divider true = Remainder
divider false = Quotient

abbrev pub code_of : Bool → AluCode
code_of true = Mod
code_of false = Div

-- the bit that tells whether a result is below 0, by the highest bits of two numbers: of a remainder that of the first number
abbrev pub sign_of : Bool → ℕ → ℕ → ℕ
sign_of true a b = a
sign_of false a b = bits_from (arithmetic Xor false 64 (low 64 a) (low 64 b)) 0 1
