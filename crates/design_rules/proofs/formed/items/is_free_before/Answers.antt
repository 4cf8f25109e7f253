-- The blocks before a number, as the view lists them.
use Rattle.std.proofs.Common.{sym, ◌∙◌}
use Rattle.net_core.specs.View.{statement_of}
use Rattle.design_rules.proofs.FormedBlocks.{targets_free_before}
use Rattle.design_rules.proofs.formed.items.is_free_before.Goals as goal

pub returns : goal.returns
returns c = (rw c.deref.ensures.value at c.targets_free.ensures) ∙ sym (targets_free_before c.args.design.now.always.items c.args.k (statement_of c.args.block.now))
