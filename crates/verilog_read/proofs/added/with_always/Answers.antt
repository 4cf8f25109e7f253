use Rattle.verilog_read.proofs.Known.{always_kept}
use Rattle.verilog_read.proofs.added.with_always.Goals as goal

pub invariant_of-result : goal.invariant_of-result
invariant_of-result c = always_kept c.partial.inside.design _ _ _ _ _ _ c.args.always c.partial.invariant c.in_ok-note.ensures c.in_ok-push.ensures.items
