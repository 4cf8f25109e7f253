use Rattle.xdp_object.proofs.PartLemmas.{Counted}
use Rattle.xdp_object.proofs.parts.unit_count.Given as goal

abbrev pub invariant-loop-insn : goal.invariant-loop-insn
invariant-loop-insn l = Counted l.insns l.insn-index l.units
