use Rattle.std.proofs.Common.{map, arith}
use Rattle.block_core.proofs.list_laws_laws.OneMoreLaws.{pushed_as}
use Rattle.net_core.specs.View.{statement_of}
use Rattle.control_net.specs.Trees.{move}
use Rattle.control_net.proofs.Lists.{ended}
use Rattle.control_net.proofs.statements.moves.Goals as goal

pub loop-k-preserved : goal.loop-k-preserved
loop-k-preserved g c =
    let a = c.args in
    pushed_as statement_of (move a.shape.now a.part a.of) c.loop-k.all.items c.push.new.self.items c.in_ok-move_on.field-0 c.loop-k.k c.in_ok-push.ensures.items c.in_ok-move_on.ensures c.loop-k.invariant

pub returns : goal.returns
returns g c = let a = c.args in ended (move a.shape.now a.part a.of) (map statement_of c.loop-k.all.items) c.loop-k.k a.shape.now.stages c.loop-k.invariant (omega (arith, c.loop-k-test.false, c.loop-k.auto.k-end))
