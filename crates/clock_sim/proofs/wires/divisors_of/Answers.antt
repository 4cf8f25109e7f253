use Rattle.std.proofs.Common.{rules}
use Rattle.net_core.specs.View.{wire_of}
use Rattle.clock_sim.proofs.ItemLaws.{at_item}
use Rattle.clock_sim.proofs.WireLemmas.{divided_first, divided_rest, divisors_more}
use Rattle.clock_sim.proofs.wires.divisors_of.Goals as goal

pub add_divisor-requires : goal.add_divisor-requires
add_divisor-requires c =
    let e = at_item wire_of c.args.all.now c.loop-i.i c.index-all-i.result c.loop-i-test.true c.index-all-i.is in
    divided_first c.args.operands.now _ _ _ e c.loop-i.invariant.divided

pub loop-i-preserved : goal.loop-i-preserved
loop-i-preserved c =
    let e = at_item wire_of c.args.all.now c.loop-i.i c.index-all-i.result c.loop-i-test.true c.index-all-i.is in
    record {
      divided = divided_rest c.args.operands.now _ _ _ e c.loop-i.invariant.divided;
      made = divisors_more c.args.operands.now _ _ _ e c.loop-i.i c.in-Ok.number _ _ _ (search rules) c.in_ok-add_divisor.ensures c.loop-i.invariant.made;
    }
