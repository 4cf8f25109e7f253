use Rattle.std.proofs.Common.{◌∙◌}
use Rattle.bpf_isa.proofs.TextLaws.{decoded_step}
use Rattle.bpf_isa.proofs.decode.decode_all.Goals as goal

pub loop-at-preserved : goal.loop-at-preserved
loop-at-preserved c =
    let found = c.in-Ok.ensures.found in (
      decoded_step c.args.code.now c.loop-at.insns.items c.push.new.self.items c.loop-at.at c.from-at.result c.in-Ok.insn c.loop-at.invariant.0 found.0 c.in_ok-push.ensures.items (c.from-at.ensures ∙ found.1),
      c.loop-at.invariant.1,
    )
