-- Shifts among the operations.
use Rattle.std.specs.Prelude.{Bool, true, false}
use Rattle.cell_core.specs.bpf_isa.declared.operation.AluCode.{AluCode}
use Rattle.cell_core.specs.bpf_isa.declared.operation.AluCode.TheVariants.{Lsh, Rsh, Arsh}

abbrev pub is_shift : AluCode → Bool
is_shift Lsh = true
is_shift Rsh = true
is_shift Arsh = true
is_shift c = false
