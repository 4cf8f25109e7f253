use Rattle.net_optimize.specs.Lists.{joined_done}
use Rattle.net_optimize.proofs.sections.with_block.Goals as goal

pub returns-in-Block : goal.returns-in-Block
returns-in-Block c v s known = c.with_statement_of.ensures v s _ (c.folded_stmt.ensures v (joined_done v c.args.list s) known)
