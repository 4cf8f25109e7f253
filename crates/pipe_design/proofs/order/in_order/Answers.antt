use Rattle.std.proofs.Common.{◌≡◌, subst, sym}
use Rattle.pipe_design.specs.Order.{blocks_in, AreNumbered}
use Rattle.pipe_design.proofs.Ordering.{makes}
use Rattle.pipe_design.proofs.order.in_order.Goals as goal

pub returns : goal.returns
returns c = λ z count. makes z (blocks_in c.args.lists.items) c.in_ok-parts.parts.items (subst (λ l. AreNumbered l c.in_ok-parts.parts.items) c.in_ok-blocks.ensures c.in_ok-parts.ensures) count
