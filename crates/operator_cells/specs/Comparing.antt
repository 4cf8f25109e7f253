-- Signed numbers in the order of unsigned ones.
use Rattle.std.specs.Prelude.{ℕ, ◌+◌, ◌-◌, ◌^◌, Bool, true, false}
use Rattle.cell_core.specs.bpf_isa.declared.operation.JumpCode.{JumpCode}
use Rattle.cell_core.specs.bpf_isa.declared.operation.JumpCode.TheVariants.{Jgt, Jge, Jsgt, Jsge, Jlt, Jle, Jslt, Jsle}
use Rattle.cell_core.specs.xdp_machine.Arithmetic.{low}

-- the low w bits of a number with the highest of them turned
abbrev pub turned : ℕ → ℕ → ℕ
turned w n = low w (n + 2 ^ (w - 1))

-- the comparisons of signed numbers, and the same of unsigned ones
abbrev pub is_signed : JumpCode → Bool
is_signed Jsgt = true
is_signed Jsge = true
is_signed Jslt = true
is_signed Jsle = true
is_signed c = false

abbrev pub unsigned : JumpCode → JumpCode
unsigned Jsgt = Jgt
unsigned Jsge = Jge
unsigned Jslt = Jlt
unsigned Jsle = Jle
unsigned c = c
