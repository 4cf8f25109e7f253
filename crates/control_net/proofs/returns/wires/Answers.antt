use Rattle.std.proofs.Common.{map, arith}
use Rattle.block_core.specs.View.{block_wire_of}
use Rattle.block_core.proofs.list_laws_laws.OneMoreLaws.{pushed_as}
use Rattle.control_net.specs.Trees.{back_wire}
use Rattle.control_net.proofs.Lists.{ended}
use Rattle.control_net.proofs.returns.wires.Goals as goal

pub loop-i-preserved : goal.loop-i-preserved
loop-i-preserved g c =
    let a = c.args in
    pushed_as block_wire_of (back_wire a.shape.now a.part a.control a.reload.now) c.loop-i.all.items c.push.new.self.items c.in_ok-back_wire.field-0 c.loop-i.i c.in_ok-push.ensures.items c.in_ok-back_wire.ensures c.loop-i.invariant

pub returns : goal.returns
returns g c =
    let a = c.args in
    ended (back_wire a.shape.now a.part a.control a.reload.now) (map block_wire_of c.loop-i.all.items) c.loop-i.i a.shape.now.commit c.loop-i.invariant (omega (arith, c.loop-i-test.false, c.loop-i.auto.i-end))
