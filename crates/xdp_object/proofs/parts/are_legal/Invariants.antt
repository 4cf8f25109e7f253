use Rattle.std.specs.List.{AllWithin}
use Rattle.bpf_isa.specs.Spelling.{IsInsn}
use Rattle.xdp_object.proofs.parts.are_legal.Given as goal

abbrev pub invariant-loop-insn : goal.invariant-loop-insn
invariant-loop-insn l = AllWithin IsInsn l.insns 0 l.insn-index
