use Rattle.std.proofs.Common.{ap, arith}
use Rattle.net_core.specs.declared.tree.Net.{Net}
use Rattle.net_core.specs.declared.tree.Expr.TheViews.{sized-More}
use Rattle.net_core.specs.declared.tree.Parts.{size-Parts}
use Rattle.net_core.proofs.ConcatenationLemmas.{one_further}
use Rattle.net_core.proofs.typed.+width_of.Goals as goal

pub width_of-returns-in-Binary : goal.width_of-returns-in-Binary
width_of-returns-in-Binary t c = rw c.in-Binary.is cc

pub width_of-returns-in-Conditional : goal.width_of-returns-in-Conditional
width_of-returns-in-Conditional t c = rw c.in-Conditional.is cc

pub width_behind-loop-left-preserved : goal.width_behind-loop-left-preserved
width_behind-loop-left-preserved t c =
    let z = sized-More Net c.in-More.a c.in-More.more in
    let whole = ap (size-Parts Net) c.in-More.is in
    let part = ap (size-Parts Net) c.deref-left.ensures in
    record {
      same = rw c.deref-left.ensures (one_further _ _ _ _ _ _ c.concatenation_width-sum.ensures c.width_of-in-More.ensures (rw c.in-More.is at c.loop-left.invariant.same));
      depth = omega (arith, z, whole, part, c.loop-left.invariant.depth);
    }

pub parts_width-returns-in-More : goal.parts_width-returns-in-More
parts_width-returns-in-More t c = rw c.in-More.is cc
