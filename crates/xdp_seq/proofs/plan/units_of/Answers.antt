use Rattle.xdp_object.proofs.bpf_isa_laws.LaidLaws.{laid_more}
use Rattle.xdp_seq.proofs.plan.units_of.Goals as goal

pub loop-insn-preserved : goal.loop-insn-preserved
loop-insn-preserved c =
    laid_more c.args.insns.now c.loop-insn.insn-index _ c.loop-insn.units.items _ c.loop-insn-test.true c.loop-insn.invariant c.in_ok-push_units.ensures
