use Rattle.std.proofs.Common.{◌≡◌, length, take, sym, ap, ◌∙◌, subst, arith}
use Rattle.std.proofs.lemmas.List.{take_all}
use Rattle.row_net.specs.SitePlace.SitePlace.{AreTaken}
use Rattle.row_net.proofs.SitePlace.TakingLemmas.{with_registers, with_length, registers_more, all_taken}
use Rattle.row_net.proofs.site_place.taking.take_pointers.Goals as goal

pub index_mut-requires : goal.index_mut-requires
index_mut-requires g c =
    let before = c.args.pointers.now.items in
    let same = ap length c.loop-i.invariant ∙ with_length c.args.part c.args.bits (take c.loop-i.i c.args.carried.now) c.args.first before in
    omega (arith, c.requires.within c.loop-i.i 0 c.loop-i-test.true, same)

pub loop-i-preserved : goal.loop-i-preserved
loop-i-preserved g c =
    registers_more c.args.part c.args.bits c.args.first c.loop-i.i c.in_ok-register.register c.args.carried.now c.args.pointers.now.items c.loop-i.pointers.items c.loop-i-test.true c.in_ok-register.ensures c.loop-i.invariant

pub returns : goal.returns
returns g c = λ cells is.
    let before = c.args.pointers.now.items in
    let carried = c.args.carried.now in
    let whole : take c.loop-i.i carried ≡ carried = take_all c.loop-i.i carried (omega (arith, c.loop-i-test.false)) in
    subst (AreTaken c.args.part cells c.args.bits c.args.first carried before) (sym (c.loop-i.invariant ∙ ap (λ xs. with_registers c.args.part c.args.bits c.args.first xs before) whole))
    (all_taken c.args.part c.args.bits cells c.requires.bits carried c.args.first before is c.requires.within)
