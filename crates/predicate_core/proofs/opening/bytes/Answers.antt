use Rattle.std.proofs.Common.{arith, refl}
use Rattle.std.proofs.Math.ListN.{length-set}
use Rattle.predicate_core.proofs.Opened.{bytes_none, bytes_more}
use Rattle.predicate_core.proofs.opening.bytes.Goals as goal

pub loop-i-init : goal.loop-i-init
loop-i-init c = (refl, bytes_none _ _)

pub loop-i-preserved : goal.loop-i-preserved
loop-i-preserved c = (simp length-set c.loop-i.invariant.0, bytes_more _ _ _ _ _ _ (omega (arith, c.loop-i.invariant.0)) c.loop-i.invariant.1 c.in_ok-c.ensures.makes c.in_ok-c.ensures.rises)
