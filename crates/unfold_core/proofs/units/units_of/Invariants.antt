use Rattle.std.proofs.Common.{◌≡◌, take}
use Rattle.xdp_machine.specs.bpf_isa.Laid.{laid}
use Rattle.unfold_core.proofs.units.units_of.Given as goal

abbrev pub invariant-loop-insn : goal.invariant-loop-insn
invariant-loop-insn l = l.units.items ≡ laid (take l.insn-index l.insns)
