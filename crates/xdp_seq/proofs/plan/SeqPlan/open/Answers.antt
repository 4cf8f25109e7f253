use Rattle.std.proofs.Common.{◌∙◌, sym, ap, subst}
use Rattle.xdp_state.specs.bpf_isa.Laid.{laid}
use Rattle.xdp_seq.specs.Units.{AreUnits}
use Rattle.xdp_seq.proofs.Laid.{are_units, insns_of-laid}
use Rattle.xdp_seq.proofs.plan.SeqPlan.open.Goals as goal

pub invariant_of-result : goal.invariant_of-result
invariant_of-result c =
    let p = c.insns.ensures.program in
    subst AreUnits (sym (c.in_ok-units.ensures ∙ ap laid c.insns.ensures.insns)) (are_units c.args.program.now.insns p.legal p.few)

pub returns : goal.returns
returns c = rw (c.in_ok-units.ensures, c.insns.ensures.insns, c.in_ok-refs.ensures.items, c.refs.ensures.refs, insns_of-laid)
