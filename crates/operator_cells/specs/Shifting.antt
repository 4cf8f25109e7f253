-- The counts of shifts.
use Rattle.std.specs.Prelude.{ℕ}
use Rattle.cell_core.specs.bpf_isa.declared.operation.Width.{Width}
use Rattle.cell_core.specs.bpf_isa.declared.operation.Width.TheVariants.{Bits32, Bits64}

-- how many bits the count of a shift has
abbrev pub count_bits : Width → ℕ
count_bits Bits32 = 5
count_bits Bits64 = 6
