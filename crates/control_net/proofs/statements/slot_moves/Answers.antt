use Rattle.std.proofs.Common.{map, arith}
use Rattle.block_core.proofs.list_laws_laws.OneMoreLaws.{pushed_as}
use Rattle.net_core.specs.Nets.{SSet}
use Rattle.net_core.specs.View.{statement_of}
use Rattle.control_net.specs.Trees.{move_slot}
use Rattle.control_net.proofs.Lists.{ended}
use Rattle.control_net.proofs.statements.slot_moves.Goals as goal

pub loop-k-preserved : goal.loop-k-preserved
loop-k-preserved g c =
    let a = c.args in
    pushed_as statement_of (move_slot a.shape.now a.part) c.loop-k.all.items c.push.new.self.items _ c.loop-k.k c.in_ok-push.ensures.items (λ i. SSet (c.slot_number-number.ensures i) (c.slot_before.ensures i)) c.loop-k.invariant

pub returns : goal.returns
returns g c = let a = c.args in ended (move_slot a.shape.now a.part) (map statement_of c.loop-k.all.items) c.loop-k.k a.shape.now.commit c.loop-k.invariant (omega (arith, c.loop-k-test.false, c.loop-k.auto.k-end))
