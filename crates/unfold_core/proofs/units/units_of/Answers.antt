use Rattle.xdp_machine.proofs.bpf_isa_laws.LaidLaws.{laid_more}
use Rattle.unfold_core.proofs.Laid.{laid_all}
use Rattle.unfold_core.proofs.units.units_of.Goals as goal

pub loop-insn-preserved : goal.loop-insn-preserved
loop-insn-preserved c =
    laid_more c.args.insns.now c.loop-insn.insn-index _ c.loop-insn.units.items _ c.loop-insn-test.true c.loop-insn.invariant c.in_ok-push_units.ensures

pub returns : goal.returns
returns c = laid_all c.args.insns.now c.loop-insn.insn-index c.loop-insn.units.items c.loop-insn.invariant c.loop-insn-test.false
