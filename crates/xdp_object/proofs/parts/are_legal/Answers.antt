-- One more instruction is legal.
use Rattle.std.proofs.Common.{below_more, get_or, subst, arith}
use Rattle.std.proofs.lemmas.List.{get_or_default}
use Rattle.bpf_isa.specs.declared.instruction.Insn.{Insn}
use Rattle.bpf_isa.specs.Spelling.{IsInsn}
use Rattle.xdp_object.proofs.parts.are_legal.Goals as goal

pub loop-insn-preserved : goal.loop-insn-preserved
loop-insn-preserved c = λ k d low below.
    let is = c.args.insns.now in
    below_more (λ j. (x : Insn) → IsInsn (get_or is j x)) c.loop-insn.insn-index (λ j before x. c.loop-insn.invariant j x (omega arith) before)
    (λ x. subst IsInsn (get_or_default is c.loop-insn.insn-index _ x c.loop-insn-test.true) (c.is_legal.ensures.0 c.if-not-is_legal.false)) k below d
