use Rattle.predicate_core.proofs.Beginning.{first_more}
use Rattle.predicate_core.proofs.program.first_entries.Goals as goal

pub loop-node-preserved : goal.loop-node-preserved
loop-node-preserved c = first_more (λ x. x.items) c.loop-node.entries.items c.push.new.self.items c.in_ok-numbers.numbers c.loop-node.node c.loop-node.invariant c.in_ok-push.ensures.items c.in_ok-numbers.ensures.first c.in_ok-numbers.ensures.other
