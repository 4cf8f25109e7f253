use Rattle.std.proofs.Common.{◌≡◌, take}
use Rattle.bpf_isa.specs.Text.{text_of}
use Rattle.flow_demo.proofs.listing.code_of.Given as goal

abbrev pub invariant-loop-insn : goal.invariant-loop-insn
invariant-loop-insn l = l.code.items ≡ text_of (take l.insn-index l.insns)
