use Rattle.std.proofs.lemmas.List.{drop_more}
use Rattle.net_core.specs.declared.design.Declared.TheVariants.{Integer}
use Rattle.clock_sim.proofs.LayoutLemmas.{layout_first, layout_more}
use Rattle.clock_sim.proofs.layout.layout_of.Goals as goal

pub add_item-requires : goal.add_item-requires
add_item-requires c =
    let e = drop_more c.args.declared.now c.loop-d.d-index Integer c.loop-d-test.true in
    layout_first _ _ _ _ _ e c.loop-d.invariant

pub loop-d-preserved : goal.loop-d-preserved
loop-d-preserved c =
    let e = drop_more c.args.declared.now c.loop-d.d-index Integer c.loop-d-test.true in
    layout_more _ _ _ _ _ _ e c.in_ok-add_item.ensures c.loop-d.invariant
