use Rattle.unfold_core.proofs.Found.{loop_crossed, loop_uncrossed}
use Rattle.unfold_core.proofs.tables.with_loop.Goals as goal

pub returns-then-is_crossed : goal.returns-then-is_crossed
returns-then-is_crossed c = loop_crossed c.args.loops.now c.args.k c.args.least _ c.lesser.result c.requires (c.is_crossed.ensures.0 c.if-is_crossed.true) c.lesser.ensures

pub returns-else-is_crossed : goal.returns-else-is_crossed
returns-else-is_crossed c = loop_uncrossed c.args.loops.now c.args.k c.args.least _ (λ q. let yes = c.is_crossed.ensures.1 q in absurd (cc))
