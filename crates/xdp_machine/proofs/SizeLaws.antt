-- The sizes of accesses.
use Rattle.std.proofs.Common.{◌≡◌, ℕ, ◌+◌, ◌%◌, ◌≤◌, refl, take, arith}
use Rattle.byteorder.specs.Endian.{little_bytes}
use Rattle.bpf_isa.specs.declared.operation.Size.{Size}
use Rattle.bpf_isa.specs.declared.operation.Size.TheVariants.{B, H, W, Dw}
use Rattle.xdp_machine.specs.Memory.{bytes_in}

-- the low bytes of a number are the first of its eight
pub low_part : (size : Size) (n : ℕ) → take (bytes_in size) (little_bytes 8 n) ≡ little_bytes (bytes_in size) n
low_part B n = refl
low_part H n = refl
low_part W n = refl
low_part Dw n = refl

-- an access at a multiple of its size lies in one slot
pub part_fits : (a : ℕ) (size : Size) → a % bytes_in size ≡ 0 → a % 8 + bytes_in size ≤ 8
part_fits a B h = omega arith
part_fits a H h = omega arith
part_fits a W h = omega arith
part_fits a Dw h = omega arith
