use Rattle.std.proofs.Common.{◌≡◌, take}
use Rattle.xdp_state.specs.bpf_isa.Laid.{laid}
use Rattle.xdp_seq.proofs.plan.units_of.Given as goal

abbrev pub invariant-loop-insn : goal.invariant-loop-insn
invariant-loop-insn l = l.units.items ≡ laid (take l.insn-index l.insns)
