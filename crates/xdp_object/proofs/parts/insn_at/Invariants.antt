use Rattle.std.proofs.Common.{◌≡◌, drop}
use Rattle.bpf_isa.specs.Text.{insn_at}
use Rattle.xdp_object.proofs.parts.insn_at.Given as goal

abbrev pub invariant-loop-insn : goal.invariant-loop-insn
invariant-loop-insn l = insn_at l.insns l.place ≡ insn_at (drop l.insn-index l.insns) l.left
