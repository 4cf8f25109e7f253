use Rattle.verilog_read.proofs.Known.{assign_kept}
use Rattle.verilog_read.proofs.added.with_assign.Goals as goal

pub invariant_of-result : goal.invariant_of-result
invariant_of-result c = assign_kept c.partial.inside.design _ _ _ _ _ _ c.args.assign c.partial.invariant c.in_ok-raise.ensures c.in_ok-push.ensures.items
