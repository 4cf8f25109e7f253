use Rattle.std.proofs.Common.{arith, ◌∙◌}
use Rattle.std.proofs.lemmas.Grind.{common_steps}
use Rattle.net_core.proofs.RegisterLemmas.{register_passed}
use Rattle.net_core.proofs.scope.register_width.Goals as goal
use Rattle.net_core.proofs.scope.register_width.Goals.{in-Register+else-left-eq0, in-Integer, in-Memory}

pub loop-item-preserved : goal.loop-item-preserved
loop-item-preserved c =
    elim c.match-item.branch [ in-Register+else-left-eq0 w ↦ register_passed _ _ _ _ _ c.loop-item-test.true w.in-Register.is w.if-left-eq0.false w.left-is ∙ c.loop-item.invariant | in-Integer w ↦ grind (arith, common_steps) | in-Memory w ↦ grind (arith, common_steps) ]
