-- The units of instructions, one after the other.
use Rattle.std.specs.Prelude.{◌-◌, List, [], ◌∷◌, ◌++◌, replicate, Option, Some, None}
use Rattle.bpf_isa.specs.declared.instruction.Insn.{Insn}
use Rattle.bpf_isa.specs.Spelling.{units_of}

-- each instruction at its first unit, and nothing at the second of a load of 64 bits
abbrev pub laid : List Insn → List (Option Insn)
laid [] = []
laid (i ∷ is) = Some i ∷ (replicate (units_of i.op - 1) None ++ laid is)
