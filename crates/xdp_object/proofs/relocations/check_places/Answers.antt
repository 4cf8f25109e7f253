use Rattle.std.proofs.Common.{◌∙◌, arith, length}
use Rattle.xdp_object.specs.Relocations.{first_unknown, unknown_at}
use Rattle.xdp_object.proofs.Places.{fits, unknowns_more, unknowns_found, none_left}
use Rattle.btf_view.proofs.list_laws_laws.FirstLaws.{first_from-all}
use Rattle.xdp_object.proofs.relocations.check_places.Goals as goal

pub check_insn-requires : goal.check_insn-requires
check_insn-requires c =
    fits c.args.places.now c.args.insns.now c.loop-insn.insn-index c.loop-insn.place _
    (record { walked = c.loop-insn.invariant.walked; left = c.loop-insn.invariant.left; known = c.loop-insn.invariant.known }) c.loop-insn-test.true

pub returns-in-Err : goal.returns-in-Err
unfolding first_unknown
returns-in-Err c =
    unknowns_found c.args.places.now c.args.insns.now c.loop-insn.insn-index c.loop-insn.place _ c.in-Err.error
    (record { walked = c.loop-insn.invariant.walked; left = c.loop-insn.invariant.left; known = c.loop-insn.invariant.known }) c.loop-insn-test.true c.in-Err.ensures

pub loop-insn-preserved : goal.loop-insn-preserved
loop-insn-preserved c =
    let next =
    unknowns_more c.args.places.now c.args.insns.now c.loop-insn.insn-index c.loop-insn.place c.from-place.result _
    (record { walked = c.loop-insn.invariant.walked; left = c.loop-insn.invariant.left; known = c.loop-insn.invariant.known }) c.loop-insn-test.true c.in_default.ensures
    (c.from-place.ensures ∙ c.units.ensures) in
    record { walked = next.walked; left = next.left; known = next.known }

pub returns : goal.returns
unfolding first_unknown
returns c =
    c.loop-insn.invariant.known
    ∙ first_from-all (unknown_at c.args.places.now c.args.insns.now) c.loop-insn.place (length c.args.places.now)
    (omega (arith, c.loop-insn.invariant.left, none_left c.args.insns.now c.loop-insn.insn-index c.loop-insn-test.false))
