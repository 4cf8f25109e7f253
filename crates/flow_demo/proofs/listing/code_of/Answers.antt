use Rattle.std.proofs.Common.{◌∙◌, ◌*◌, ◌++◌, ap, arith, get_or, sym, take}
use Rattle.bpf_isa.specs.Spelling.{spelling}
use Rattle.flow_demo.proofs.Texts.{no_insn, text_of-take_more}
use Rattle.flow_demo.proofs.listing.code_of.Goals as goal

pub loop-insn-preserved : goal.loop-insn-preserved
loop-insn-preserved c =
    let insns = c.args.insns.now in
    let i = c.loop-insn.insn-index in
    let one = c.encode_one-units in
    c.in_ok-extend_from_slice.ensures.items
    ∙ ap (λ bs. c.loop-insn.code.items ++ bs) (ap (λ n. take (8 * n) one.result.0) one.ensures.units ∙ one.ensures.front.bytes)
    ∙ ap (λ bs. bs ++ spelling (get_or insns i no_insn)) c.loop-insn.invariant
    ∙ sym (text_of-take_more insns i (omega arith))
