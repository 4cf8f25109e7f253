use Rattle.std.proofs.Common.{◌∙◌}
use Rattle.xdp_object.proofs.PartLemmas.{counted_more}
use Rattle.xdp_object.proofs.parts.unit_count.Goals as goal

pub loop-insn-preserved : goal.loop-insn-preserved
loop-insn-preserved c =
    counted_more c.args.insns.now c.loop-insn.insn-index _ c.loop-insn.units c.from-units.result c.loop-insn-test.true c.loop-insn.invariant (c.from-units.ensures ∙ c.units.ensures)
