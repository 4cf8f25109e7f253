-- The least program.
use Rattle.std.specs.Prelude.{ℤ, pos, List, [], ◌∷◌}
use Rattle.bpf_isa.specs.declared.instruction.Insn.{Insn}
use Rattle.bpf_isa.specs.declared.operation.Op.TheVariants.{Alu, Exit}
use Rattle.bpf_isa.specs.declared.operation.Width.TheVariants.{Bits64}
use Rattle.bpf_isa.specs.declared.operation.AluCode.TheVariants.{Mov}
use Rattle.bpf_isa.specs.declared.operation.Src.TheVariants.{K}

-- r0 = k
abbrev pub move_number : ℤ → Insn
move_number k = record { op = Alu Bits64 Mov K; dst = 0; src = 0; offset = pos 0; imm = k }

-- exit
abbrev pub leave : Insn
leave = record { op = Exit; dst = 0; src = 0; offset = pos 0; imm = pos 0 }

-- the program of two units: r0 = k, exit
abbrev pub two_units : ℤ → List Insn
two_units k = move_number k ∷ leave ∷ []
