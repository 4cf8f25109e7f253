use Rattle.std.proofs.Common.{ap, sym, ◌∙◌, arith}
use Rattle.net_core.specs.declared.tree.Net.{Net}
use Rattle.net_core.specs.declared.tree.Expr.TheViews.{sized-More}
use Rattle.net_core.specs.declared.tree.Parts.{size-Parts}
use Rattle.net_optimize.proofs.reading.+reads.Goals as goal

pub reads_known-returns-in-Binary : goal.reads_known-returns-in-Binary
reads_known-returns-in-Binary t c = rw c.in-Binary.is cc

pub reads_known-returns-in-Conditional : goal.reads_known-returns-in-Conditional
reads_known-returns-in-Conditional t c = rw c.in-Conditional.is cc

pub parts_known-loop-left-preserved : goal.parts_known-loop-left-preserved
parts_known-loop-left-preserved t c =
    let z = sized-More Net c.in-More.a c.in-More.more in
    let whole = ap (size-Parts Net) c.in-More.is in
    let part = ap (size-Parts Net) c.deref-left.ensures in
    record {
      same = rw c.deref-left.ensures (rw (sym c.reads_known-in-More.ensures ∙ c.if-not-reads_known.false) at (rw c.in-More.is at c.loop-left.invariant.same));
      depth = omega (arith, z, whole, part, c.loop-left.invariant.depth);
    }
